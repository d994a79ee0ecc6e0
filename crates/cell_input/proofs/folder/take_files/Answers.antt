use Rattle.std.proofs.Common.{map, List, ◌≡◌, ◌+◌, true, cond, not, Ok, [], ◌∷◌, ◌++◌, length, refl, sym, ap, ◌∙◌, arith, rules, string_bytes, append-nil}
use Rattle.std.specs.Prelude.{is_ok}
use Rattle.std.proofs.lemmas.Result.{err_from_is_err_and}
use Rattle.std.proofs.lemmas.List.Elements.{All-nil}
use Rattle.cell_io.specs.Files.{folder}
use Rattle.cell_world.specs.declared.file.File.{File}
use Rattle.cell_input.specs.Taking.{file_after}
use Rattle.cell_input.proofs.ObjectFiles.{IsSmall, small_more, prepend, prepend-none, taken_after, first_listed, one_named, rest_listed, takes_more, stops_more}
use Rattle.cell_input.proofs.folder.take_files.Goals as goal

pub loop-name-init : goal.loop-name-init
loop-name-init g c =
    let keys : c.into_iter-name-iterator.result ≡ c.args.objects.now.keys = search rules in
    record {
      taken = λ all told. ap (λ fs. prepend fs (taken_after c.args.why.now 0 c.args.dir.now c.into_iter-name-iterator.result all)) c.new-files.ensures.items
          ∙ prepend-none (taken_after c.args.why.now 0 c.args.dir.now c.into_iter-name-iterator.result all)
          ∙ ap (λ ks. taken_after c.args.why.now 0 c.args.dir.now ks all) keys;
      listed = λ all told. rw keys (c.requires all told);
      small = rw c.new-files.ensures.items (All-nil IsSmall);
      names = ap (λ (fs : List File). map (λ (f : File). f.name) fs ++ map string_bytes c.into_iter-name-iterator.result) c.new-files.ensures.items ∙ ap (map string_bytes) keys;
      total = omega arith;
      files = refl;
      later = omega arith;
    }

pub take_file-requires-clause-listed : goal.take_file-requires-clause-listed
take_file-requires-clause-listed g c = λ all told.
    rw c.as_str.ensures.value (first_listed c.args.dir.now c.in-Some.name.now c.loop-name.name-iterator c.next.new.self all c.in-Some.ensures.steps
    (c.loop-name.invariant.listed all (sym c.loop-name.invariant.files ∙ told)))

pub returns-in_err-file-clause-taken : goal.returns-in_err-file-clause-taken
returns-in_err-file-clause-taken g c =
    let p = err_from_is_err_and c.from_residual.result c.from_residual.ensures.1 in
    rw (p.1, p.2) (λ all told.
    stops_more c.args.why.now c.args.dir.now c.in-Some.name.now c.loop-name.name-iterator c.next.new.self all c.loop-name.total c.in_err-file.field-0.0 c.loop-name.files.items _ c.in-Some.ensures.steps
    (rw c.as_str.ensures.value at (c.in_err-file.ensures.file all (c.loop-name.invariant.files ∙ told)))
    (c.loop-name.invariant.taken all told))

pub loop-name-preserved : goal.loop-name-preserved
loop-name-preserved g c =
    let file = c.in_ok-file.file in
    let stored : is_ok c.push.result ≡ true = c.is_err.ensures.negation ∙ ap not c.if-is_err.false in
    let pushed : c.push.new.self.items ≡ c.loop-name.files.items ++ file ∷ [] =
    c.push.ensures.items ∙ ap (λ b. cond b (c.loop-name.files.items ++ file ∷ []) c.loop-name.files.items) stored in
    let size : length c.as_slice.result.now ≡ length file.bytes = ap length c.as_slice.ensures in
    record {
      taken = λ all told.
          let took : file_after c.args.why.now c.loop-name.total (string_bytes c.in-Some.name.now) (folder c.args.dir.now all) ≡ Ok file
          = ap (λ name. file_after c.args.why.now c.loop-name.total name (folder c.args.dir.now all)) (sym c.as_str.ensures.value) ∙ c.in_ok-file.ensures.file all (c.loop-name.invariant.files ∙ told) in
          ap (λ fs. prepend fs (taken_after c.args.why.now (c.loop-name.total + length c.as_slice.result.now) c.args.dir.now c.next.new.self all)) pushed
          ∙ ap (λ k. prepend (c.loop-name.files.items ++ file ∷ []) (taken_after c.args.why.now (c.loop-name.total + k) c.args.dir.now c.next.new.self all)) size
          ∙ takes_more c.args.why.now c.args.dir.now c.in-Some.name.now c.loop-name.name-iterator c.next.new.self all c.loop-name.total file c.loop-name.files.items _ c.in-Some.ensures.steps took
          (c.loop-name.invariant.taken all told);
      listed = λ all told. rest_listed c.args.dir.now c.in-Some.name.now c.loop-name.name-iterator c.next.new.self all c.in-Some.ensures.steps (c.loop-name.invariant.listed all told);
      small = rw pushed (small_more c.loop-name.files.items file c.loop-name.invariant.small c.in_ok-file.ensures.small);
      names = ap (λ (fs : List File). map (λ (f : File). f.name) fs ++ map string_bytes c.next.new.self) pushed
          ∙ one_named c.loop-name.files.items file c.in-Some.name.now c.next.new.self (c.in_ok-file.ensures.name ∙ c.as_str.ensures.value)
          ∙ ap (λ ks. map (λ (f : File). f.name) c.loop-name.files.items ++ map string_bytes ks) (sym c.in-Some.ensures.steps)
          ∙ c.loop-name.invariant.names;
      total = omega (arith, size, c.in_ok-file.ensures.all);
      files = c.in_ok-file.ensures.files ∙ c.loop-name.invariant.files;
      later = omega (arith, c.in_ok-file.ensures.cause.later);
    }

pub returns-clause-taken : goal.returns-clause-taken
returns-clause-taken g c = λ all told.
    sym (c.loop-name.invariant.taken all told)
    ∙ ap (λ ks. prepend c.loop-name.files.items (taken_after c.args.why.now c.loop-name.total c.args.dir.now ks all)) c.in-None.ensures.steps.0
    ∙ ap Ok (append-nil c.loop-name.files.items)
    ∙ ap Ok (sym c.from_vec.ensures)

pub returns-clause-names : goal.returns-clause-names
returns-clause-names g c =
    ap (map (λ (f : File). f.name)) c.from_vec.ensures
    ∙ (sym (append-nil (map (λ (f : File). f.name) c.loop-name.files.items))
    ∙ (ap (λ ks. map (λ (f : File). f.name) c.loop-name.files.items ++ map string_bytes ks) (sym c.in-None.ensures.steps.0)
    ∙ c.loop-name.invariant.names))
