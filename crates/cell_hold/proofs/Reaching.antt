-- What a cell reaches: by its links, and by the words of its sections.
use Rattle.std.proofs.Common.{◌≡◌, refl, sym, ◌∙◌, ap, ℕ, ◌+◌, Bool, true, false, cond, ◌&&◌, ◌||◌, not, List, [], ◌∷◌, length, take, get_or, ◌≤◌, ◌<◌, take_all}
use Rattle.std.specs.Prelude.{◌==◌, filter, flat_map, nat_le}
use Rattle.std.specs.List.{list_any}
use Rattle.std.proofs.lemmas.List.Folds.{list_any-append, list_any_at}
use Rattle.cell_num.specs.declared.ids.CellId.{CellId}
use Rattle.cell_graph.specs.Links.{Links}
use Rattle.cell_mem.specs.State.{MemoryState}
use Rattle.cell_world.specs.declared.state.Placed.{Placed}
use Rattle.cell_world.specs.Kept.{reaches, words_inside}
use Rattle.cell_hold.specs.Adds.{Adds}
use Rattle.cell_hold.specs.Reached.{cell_leads, linked, links_lead, section_leads, touches, words_reach}
use Rattle.cell_hold.proofs.Adding.{none_added, added_all, added_same, added_then, in_room}

module _ (memory : MemoryState) (places : List Placed) (a c : ℕ) where
  abbrev own_words : List Placed → List ℕ
  own_words ss = flat_map (words_inside memory.regions) (filter (λ (s : Placed). s.key.cell.0 == a && s.write) ss)

  -- a word of the cell's writable sections is one of a section that leads
  by_sections : (ss : List Placed) → list_any (λ s. cell_leads memory places a s c) ss ≡ touches places (own_words ss) c
  by_sections [] = refl
  by_sections (s ∷ ss) = go (s.key.cell.0 == a) s.write (by_sections ss)
    where
      go : (e w : Bool) → list_any (λ s. cell_leads memory places a s c) ss ≡ touches places (own_words ss) c
          → ((e && (w && touches places (words_inside memory.regions s) c)) || list_any (λ s. cell_leads memory places a s c) ss)
          ≡ touches places (flat_map (words_inside memory.regions) (cond (e && w) (s ∷ filter (λ (s : Placed). s.key.cell.0 == a && s.write) ss) (filter (λ (s : Placed). s.key.cell.0 == a && s.write) ss))) c
      go true true ih =
          ap (λ b. touches places (words_inside memory.regions s) c || b) ih
          ∙ sym (list_any-append (λ w. list_any (λ (t : Placed). t.key.cell.0 == c && nat_le t.start w && nat_le w (t.start + t.size)) places) (words_inside memory.regions s) (own_words ss))
      go true false ih = ih
      go false true ih = ih
      go false false ih = ih

  -- a cell reaches another by a link or by a section
  pub reaches_by : (graph : Links) → (links_lead graph a c || list_any (λ s. cell_leads memory places a s c) places) ≡ reaches (linked graph memory places) a c
  reaches_by graph = ap (λ b. links_lead graph a c || b) (by_sections places)

  pub reaches_by_link : (graph : Links) → links_lead graph a c ≡ true → true ≡ reaches (linked graph memory places) a c
  reaches_by_link graph h = sym (ap (λ b. b || list_any (λ s. cell_leads memory places a s c) places) h) ∙ reaches_by graph

  pub reaches_by_word : (graph : Links) (b : Bool) → links_lead graph a c ≡ false → b ≡ list_any (λ s. cell_leads memory places a s c) places → b ≡ reaches (linked graph memory places) a c
  reaches_by_word graph b h e = e ∙ (sym (ap (λ d. d || list_any (λ s. cell_leads memory places a s c) places) h) ∙ reaches_by graph)

-- its links, unless they are known, and its sections have been gone over
pub reached_added : (graph : Links) (memory : MemoryState) (places others : List Placed) (a now room : ℕ) (known : Bool) (old mid new : List CellId) → now ≡ room → Adds (λ c. not known && links_lead graph a c) room old mid
    → Adds (words_reach memory places others a) now mid new → Adds (λ c. not known && links_lead graph a c || words_reach memory places others a c) room old new
reached_added graph memory places others a now room known old mid new e t u =
    added_then (λ c. not known && links_lead graph a c) (words_reach memory places others a) room old mid new t (in_room (words_reach memory places others a) now room mid new e u)

module _ (memory : MemoryState) (places : List Placed) (s : Placed) where
  -- a section that may not be written leads nowhere
  pub not_written : (room : ℕ) (old : List CellId) → s.write ≡ false → Adds (section_leads memory places s) room old old
  not_written room old e = none_added (section_leads memory places s) room old (λ c. ap (λ b. b && touches places (words_inside memory.regions s) c) e)

  pub written_leads : (words : List ℕ) (c : ℕ) → s.write ≡ true → words ≡ words_inside memory.regions s → touches places words c ≡ section_leads memory places s c
  written_leads words c e is = ap (λ ws. touches places ws c) is ∙ sym (ap (λ b. b && touches places (words_inside memory.regions s) c) e)

  pub written_added : (words : List ℕ) (room : ℕ) (old new : List CellId) → s.write ≡ true → words ≡ words_inside memory.regions s → Adds (touches places words) room old new → Adds (section_leads memory places s) room old new
  written_added words room old new e is = added_same (touches places words) (section_leads memory places s) room old new (λ c. written_leads words c e is)

module _ (memory : MemoryState) (places own : List Placed) (a : ℕ) (is : (p : Placed → Bool) → list_any p own ≡ list_any (λ s. s.key.cell.0 == a && p s) places) where
  -- all sections of the cell have been gone over
  pub own_added : (others : List Placed) (i room : ℕ) (old new : List CellId) → length own ≤ i → Adds (λ c. list_any (λ s. section_leads memory others s c) (take i own)) room old new
      → Adds (words_reach memory places others a) room old new
  own_added others i room old new le t =
      added_same (λ c. list_any (λ s. section_leads memory others s c) own) (words_reach memory places others a) room old new
      (λ c. is (λ s. section_leads memory others s c)) (added_all (λ (s : Placed) (c : ℕ). section_leads memory others s c) own i room old new le t)

  -- none of them leads there
  pub none_leads : (c i : ℕ) → length own ≤ i → list_any (λ s. section_leads memory places s c) (take i own) ≡ false → false ≡ list_any (λ s. cell_leads memory places a s c) places
  none_leads c i le e = sym e ∙ (ap (list_any (λ s. section_leads memory places s c)) (take_all i own le) ∙ is (λ s. section_leads memory places s c))

  -- one does
  pub one_leads : (c i : ℕ) (d : Placed) → i < length own → section_leads memory places (get_or own i d) c ≡ true → true ≡ list_any (λ s. cell_leads memory places a s c) places
  one_leads c i d lt e = sym (list_any_at (λ s. section_leads memory places s c) own i d lt e) ∙ is (λ s. section_leads memory places s c)
