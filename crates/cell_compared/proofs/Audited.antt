-- The audit, step by step.
use Rattle.std.proofs.Common.{◌≡◌, refl, sym, ◌∙◌, ap, subst, ℕ, List, map, Ok, Err}
use Rattle.std.specs.Prelude.{Option, Some, None, Result}
use Rattle.cell_audit.specs.Audits.{Audit, ◌>>=◌, ◌>>◌, audit_of, first_difference, found, readable, reading_of, refused_by}
use Rattle.cell_audit.specs.Described.{described}
use Rattle.cell_audit.specs.Dumps.{Row, Text, dump_in, lines_of, rows_in}
use Rattle.cell_audit.specs.Linking.{first_unlinked, fresh_lines}
use Rattle.cell_audit.specs.Outcome.{Agrees, FailsBy}
use Rattle.cell_audit.specs.Placing.{first_lacking, first_misplaced}
use Rattle.cell_audit.specs.declared.fail.AuditFail.{AuditFail}
use Rattle.cell_audit.specs.declared.fail.AuditFail.TheVariants.{Unreadable, NoObject, Misplaced, Unlinked, Differs, OutOfMemory}
use Rattle.cell_audit.specs.Linking.{unlinked_in}
use Rattle.cell_audit.proofs.Clean.{readable_ok}
use Rattle.cell_described.specs.declared.cell.DescribedCell.{DescribedCell}
use Rattle.cell_num.specs.Lists.{In}
use Rattle.cell_num.proofs.Elements.{map-In}
use Rattle.cell_object.specs.declared.object.Object.{Object}
use Rattle.cell_relinked.specs.Linking.{lined, seen_by, unlinked, unlinked_among, world_in}
use Rattle.cell_relinked.specs.declared.ground.Ground.{Ground}
use Rattle.cell_relinked.proofs.Earlier.{each_linked}
use Rattle.cell_described.specs.Describes.{Describes}
use Rattle.cell_described.specs.Fails.{audit_fail}
use Rattle.cell_described.specs.declared.fail.DescribeFail.{DescribeFail}
use Rattle.cell_described.specs.declared.fail.DescribeFail.TheVariants as describing
use Rattle.cell_world.specs.Gather.{Source}
use Rattle.cell_compared.proofs.Walking.{fails_bind}

-- what fails here fails there, where they go on alike
bind_fails : {X Y Z : Type 0} (fault : AuditFail) (a : Audit X) (f : X → Audit Y) (g : X → Audit Z) → ((x : X) → FailsBy fault (f x) → FailsBy fault (g x)) → FailsBy fault (a >>= f) → FailsBy fault (a >>= g)
bind_fails fault (Ok x) f g h k = h x k
bind_fails {Y = Y} fault (Err e) f g h k = fails_bind fault (Err e) (λ (y : Y). Err OutOfMemory) k

then_fails : (fault : AuditFail) (a next : Audit (Unit {0})) → FailsBy fault a → FailsBy fault (a >> next)
then_fails OutOfMemory a next h = tt
then_fails (Unreadable line) a next h = ap (λ (x : Audit (Unit {0})). x >> next) h
then_fails (NoObject line) a next h = ap (λ (x : Audit (Unit {0})). x >> next) h
then_fails (Misplaced line) a next h = ap (λ (x : Audit (Unit {0})). x >> next) h
then_fails (Unlinked line entry) a next h = ap (λ (x : Audit (Unit {0})). x >> next) h
then_fails (Differs line held fresh) a next h = ap (λ (x : Audit (Unit {0})). x >> next) h

pub then_goes : (a next : Audit (Unit {0})) → a ≡ Ok tt → (a >> next) ≡ next
then_goes a next e = ap (λ (x : Audit (Unit {0})). x >> next) e

pub agrees_same : (said other : Audit (Unit {0})) (r : Result (Unit {0}) AuditFail) → said ≡ other → Agrees said r → Agrees other r
agrees_same said other r e h = subst (λ (x : Audit (Unit {0})). Agrees x r) e h

pub agrees_failing : (fault : AuditFail) (a next : Audit (Unit {0})) → FailsBy fault a → Agrees (a >> next) (Err fault)
agrees_failing fault a next h = then_fails fault a next h

refused_ok : {X : Type 0} (fault : X → AuditFail) (o : Option X) → refused_by fault o ≡ Ok tt → o ≡ None
refused_ok fault None e = refl
refused_ok fault (Some x) e = absurd cc

-- where all can be linked, each cell can
pub all_linked : (g : Ground) (objects : List Object) → unlinked (world_in g objects) (map (lined g objects) g.cells.now) ≡ Ok tt → (d : DescribedCell) → In d g.cells.now → unlinked_in (world_in g objects) (seen_by g objects d) ≡ None
all_linked g objects e d i =
    each_linked (world_in g objects) (map (lined g objects) g.cells.now) (refused_ok (λ at. Unlinked at.0 at.1) (unlinked_among (world_in g objects) (map (lined g objects) g.cells.now)) e) (lined g objects d) (map-In (lined g objects) g.cells.now d i)

module _ (dump : List ℕ) (sources : List Source) where
  -- a line that can't be read
  pub unread : (fault : AuditFail) → FailsBy fault (reading_of dump) → FailsBy fault (audit_of dump sources)
  unread fault h =
      bind_fails fault (found (dump_in dump) (Unreadable 0)) (λ texts. readable (rows_in texts)) _
      (λ texts k. fails_bind fault (readable (rows_in texts)) _ k) h

  module _ (texts : List Text) (rows : List Row) (d : dump_in dump ≡ Some texts) where
    pub rows_are : reading_of dump ≡ Ok rows → rows_in texts ≡ Ok rows
    rows_are e = readable_ok (rows_in texts) rows (sym (ap (λ (o : Option (List Text)). found o (Unreadable 0) >>= λ ts. readable (rows_in ts)) d) ∙ e)

    module _ (r : rows_in texts ≡ Ok rows) where
      abbrev differs : Audit (Unit {0})
      differs = refused_by (λ fault. fault) (first_difference texts (fresh_lines (lines_of rows) (described sources (lines_of rows))))

      abbrev links : Audit (Unit {0})
      links = refused_by (λ at. Unlinked at.0 at.1) (first_unlinked sources (lines_of rows) (described sources (lines_of rows)) rows)

      audit_is : audit_of dump sources ≡ (refused_by (λ line. NoObject line) (first_lacking sources rows) >> (refused_by (λ line. Misplaced line) (first_misplaced sources rows) >> (links >> differs)))
      audit_is = rw (d, r) refl

      -- a cell that can't be described
      pub undescribed : (file : List ℕ) (fail : DescribeFail) → Describes sources file rows (Err fail) → FailsBy (audit_fail fail) (audit_of dump sources)
      undescribed file (describing.NoObject line) h =
          audit_is ∙ ap (λ (o : Option ℕ). refused_by (λ line. NoObject line) o >> (refused_by (λ line. Misplaced line) (first_misplaced sources rows) >> (links >> differs))) h
      undescribed file (describing.Misplaced line) h =
          audit_is
          ∙ (ap (λ (o : Option ℕ). refused_by (λ line. NoObject line) o >> (refused_by (λ line. Misplaced line) (first_misplaced sources rows) >> (links >> differs))) h.0
          ∙ ap (λ (o : Option ℕ). refused_by (λ line. Misplaced line) o >> (links >> differs)) h.1)
      undescribed file describing.OutOfMemory h = tt

      -- and where each can
      pub described_on : first_lacking sources rows ≡ None → first_misplaced sources rows ≡ None → audit_of dump sources ≡ (links >> differs)
      described_on none well =
          audit_is
          ∙ (ap (λ (o : Option ℕ). refused_by (λ line. NoObject line) o >> (refused_by (λ line. Misplaced line) (first_misplaced sources rows) >> (links >> differs))) none
          ∙ ap (λ (o : Option ℕ). refused_by (λ line. Misplaced line) o >> (links >> differs)) well)
