-- Patches that lie inside their region, made twice in a row, leave what they left the first time.
use Rattle.std.proofs.Common.{◌≡◌, refl, sym, ◌∙◌, ap, subst, arith, ℕ, ◌+◌, ◌-◌, ◌≤◌, ◌<◌, ◌⊎◌, inl, inr, Bool, true, false, cond, List, [], ◌∷◌, ◌++◌, length, get_or, take, drop, length-append, length-drop}
use Rattle.std.specs.Prelude.{fold}
use Rattle.std.proofs.lemmas.Bool.{cases_lt, and_parts, and_from, ltb-true, lt-ltb, leb-true, le-leb}
use Rattle.std.proofs.lemmas.List.{length-take-le, get_or-take, get_or-drop, get_or_append_left, get_or-append_right, ext_get_or}
use Rattle.cell_world.specs.World.{Region, Permission}
use Rattle.cell_world.specs.Running.Memory.{pasted, covers}
use Rattle.cell_world.specs.Linked.Relink.{Patch, patched}
use Rattle.cell_num.specs.Lists.{In}

pub length-pasted : (bytes new : List ℕ) (i : ℕ) → i + length new ≤ length bytes → length (pasted bytes i new) ≡ length bytes
length-pasted bytes new i h =
    omega (arith, length-append (take i bytes) (new ++ drop (i + length new) bytes), length-append new (drop (i + length new) bytes), length-append (take i bytes ++ new) (drop (i + length new) bytes), length-append (take i bytes) new, length-take-le i bytes (omega arith), length-drop (i + length new) bytes)

front : (bytes new : List ℕ) (i : ℕ) → i + length new ≤ length bytes → length (take i bytes ++ new) ≡ i + length new
front bytes new i h = omega (arith, length-append (take i bytes) new, length-take-le i bytes (omega arith))

pub pasted_before : (bytes new : List ℕ) (i k : ℕ) → i + length new ≤ length bytes → k < i → get_or (pasted bytes i new) k 0 ≡ get_or bytes k 0
pasted_before bytes new i k h l =
    get_or_append_left (take i bytes ++ new) (drop (i + length new) bytes) 0 k (omega (arith, front bytes new i h))
    ∙ (get_or_append_left (take i bytes) new 0 k (omega (arith, length-take-le i bytes (omega arith))) ∙ get_or-take i bytes k 0 l)

pub pasted_in : (bytes new : List ℕ) (i k : ℕ) → i + length new ≤ length bytes → i ≤ k → k < i + length new → get_or (pasted bytes i new) k 0 ≡ get_or new (k - i) 0
pasted_in bytes new i k h l m =
    get_or_append_left (take i bytes ++ new) (drop (i + length new) bytes) 0 k (omega (arith, front bytes new i h))
    ∙ get_or-append_right (take i bytes) new i k 0 (length-take-le i bytes (omega arith)) l

pub pasted_after : (bytes new : List ℕ) (i k : ℕ) → i + length new ≤ length bytes → i + length new ≤ k → get_or (pasted bytes i new) k 0 ≡ get_or bytes k 0
pasted_after bytes new i k h l =
    get_or-append_right (take i bytes ++ new) (drop (i + length new) bytes) (i + length new) k 0 (front bytes new i h) l
    ∙ (get_or-drop (i + length new) bytes (k - (i + length new)) 0
    ∙ ap (λ (j : ℕ). get_or bytes j 0) (omega arith))

-- a region that starts at a and has n bytes
abbrev pub HasShape : ℕ → ℕ → Region → Type 0
HasShape a n r = (r.start ≡ a) × (length r.bytes ≡ n)

-- a patch that begins in the region ends in it
abbrev pub EndsIn : ℕ → ℕ → Patch → Type 0
EndsIn a n p = a ≤ p.addr → p.addr < a + n → p.addr + length p.bytes ≤ a + n

covered : (r : Region) (x : ℕ) → covers r x ≡ true → (r.start ≤ x) × (x < r.start + length r.bytes)
covered r x h = let k = and_parts _ _ h in (leb-true r.start x k.0, ltb-true x (r.start + length r.bytes) k.1)

module _ (a n : ℕ) where
  patched_shape : (r : Region) (p : Patch) → HasShape a n r → EndsIn a n p → HasShape a n (patched r p)
  patched_shape r p s e = go (covers r p.addr) refl
    where
      go : (b : Bool) → covers r p.addr ≡ b → HasShape a n (cond b (record r { bytes = pasted r.bytes (p.addr - r.start) p.bytes }) r)
      go false t = s
      go true t =
          let k : (r.start ≤ p.addr) × (p.addr < r.start + length r.bytes) = covered r p.addr t in
          let m : p.addr + length p.bytes ≤ a + n = e (omega arith) (omega arith) in
          (s.0, length-pasted r.bytes p.bytes (p.addr - r.start) (omega arith) ∙ s.1)

abbrev pub byte_at : ℕ → Region → ℕ
byte_at k r = get_or r.bytes k 0

module _ (a n : ℕ) (k : ℕ) where
  hit : (p : Patch) → EndsIn a n p → a ≤ p.addr → p.addr < a + n → p.addr ≤ a + k → a + k < p.addr + length p.bytes → (r : Region) → HasShape a n r → byte_at k (patched r p) ≡ get_or p.bytes (a + k - p.addr) 0
  hit p e h1 h2 h3 h4 r s =
      let m : p.addr + length p.bytes ≤ a + n = e h1 h2 in
      let c : covers r p.addr ≡ true = and_from _ _ (le-leb r.start p.addr (omega arith)) (lt-ltb p.addr (r.start + length r.bytes) (omega arith)) in
      subst (λ b. byte_at k (cond b (record r { bytes = pasted r.bytes (p.addr - r.start) p.bytes }) r) ≡ get_or p.bytes (a + k - p.addr) 0) (sym c)
      (pasted_in r.bytes p.bytes (p.addr - r.start) k (omega arith) (omega arith) (omega arith) ∙ ap (λ (j : ℕ). get_or p.bytes j 0) (omega arith))

  -- the patch does not reach the byte
  abbrev Misses : Patch → Type 0
  Misses p = (p.addr < a) ⊎ ((a + n ≤ p.addr) ⊎ ((a + k < p.addr) ⊎ (p.addr + length p.bytes ≤ a + k)))

  miss_in : (p : Patch) → EndsIn a n p → (r : Region) → HasShape a n r → covers r p.addr ≡ true → Misses p → byte_at k (record r { bytes = pasted r.bytes (p.addr - r.start) p.bytes }) ≡ byte_at k r
  miss_in p e r s t (inl h) = let c : (r.start ≤ p.addr) × (p.addr < r.start + length r.bytes) = covered r p.addr t in absurd (omega arith)
  miss_in p e r s t (inr (inl h)) = let c : (r.start ≤ p.addr) × (p.addr < r.start + length r.bytes) = covered r p.addr t in absurd (omega arith)
  miss_in p e r s t (inr (inr (inl h))) =
      let c : (r.start ≤ p.addr) × (p.addr < r.start + length r.bytes) = covered r p.addr t in
      let m : p.addr + length p.bytes ≤ a + n = e (omega arith) (omega arith) in
      pasted_before r.bytes p.bytes (p.addr - r.start) k (omega arith) (omega arith)
  miss_in p e r s t (inr (inr (inr h))) =
      let c : (r.start ≤ p.addr) × (p.addr < r.start + length r.bytes) = covered r p.addr t in
      let m : p.addr + length p.bytes ≤ a + n = e (omega arith) (omega arith) in
      pasted_after r.bytes p.bytes (p.addr - r.start) k (omega arith) (omega arith)

  miss : (p : Patch) → EndsIn a n p → Misses p → (r : Region) → HasShape a n r → byte_at k (patched r p) ≡ byte_at k r
  miss p e h r s = go (covers r p.addr) refl
    where
      go : (b : Bool) → covers r p.addr ≡ b → byte_at k (cond b (record r { bytes = pasted r.bytes (p.addr - r.start) p.bytes }) r) ≡ byte_at k r
      go false t = refl
      go true t = miss_in p e r s t h

  -- for all regions of the shape: the byte is the same number after f, or f leaves it
  abbrev Settles : (Region → Region) → Type 0
  Settles f = ((r q : Region) → HasShape a n r → HasShape a n q → byte_at k (f r) ≡ byte_at k (f q)) ⊎ ((r : Region) → HasShape a n r → byte_at k (f r) ≡ byte_at k r)

  settles_one : (p : Patch) → EndsIn a n p → Settles (λ r. patched r p)
  settles_one p e = go (cases_lt p.addr a) (cases_lt p.addr (a + n)) (cases_lt (a + k) p.addr) (cases_lt (a + k) (p.addr + length p.bytes))
    where
      go : (p.addr < a) ⊎ (a ≤ p.addr) → (p.addr < a + n) ⊎ (a + n ≤ p.addr) → (a + k < p.addr) ⊎ (p.addr ≤ a + k) → (a + k < p.addr + length p.bytes) ⊎ (p.addr + length p.bytes ≤ a + k) → Settles (λ r. patched r p)
      go (inl h) y z u = inr (miss p e (inl h))
      go (inr x) (inr h) z u = inr (miss p e (inr (inl h)))
      go (inr x) (inl y) (inl h) u = inr (miss p e (inr (inr (inl h))))
      go (inr x) (inl y) (inr z) (inr h) = inr (miss p e (inr (inr (inr h))))
      go (inr x) (inl y) (inr z) (inl u) = inl (λ r q s t. hit p e x y z u r s ∙ sym (hit p e x y z u q t))

module _ (a n : ℕ) where
  abbrev pub AllEndIn : List Patch → Type 0
  AllEndIn ps = (p : Patch) → In p ps → EndsIn a n p

  pub shape_by : (ps : List Patch) → AllEndIn ps → (r : Region) → HasShape a n r → HasShape a n (fold patched r ps)
  shape_by [] e r s = s
  shape_by (p ∷ ps) e r s = shape_by ps (λ q h. e q (inr h)) (patched r p) (patched_shape a n r p s (e p (inl refl)))

  settles : (k : ℕ) (ps : List Patch) → AllEndIn ps → Settles a n k (λ r. fold patched r ps)
  settles k [] e = inr (λ r s. refl)
  settles k (p ∷ ps) e = go (settles k ps (λ q h. e q (inr h))) (settles_one a n k p (e p (inl refl)))
    where
      shape : (r : Region) → HasShape a n r → HasShape a n (patched r p)
      shape r s = patched_shape a n r p s (e p (inl refl))

      go : Settles a n k (λ r. fold patched r ps) → Settles a n k (λ r. patched r p) → Settles a n k (λ r. fold patched r (p ∷ ps))
      go (inl f) g = inl (λ r q s t. f (patched r p) (patched q p) (shape r s) (shape q t))
      go (inr f) (inl g) = inl (λ r q s t. f (patched r p) (shape r s) ∙ (g r q s t ∙ sym (f (patched q p) (shape q t))))
      go (inr f) (inr g) = inr (λ r s. f (patched r p) (shape r s) ∙ g r s)

  byte_again : (k : ℕ) (ps : List Patch) → AllEndIn ps → (r : Region) → HasShape a n r → byte_at k (fold patched (fold patched r ps) ps) ≡ byte_at k (fold patched r ps)
  byte_again k ps e r s = go (settles k ps e)
    where
      go : Settles a n k (λ r. fold patched r ps) → byte_at k (fold patched (fold patched r ps) ps) ≡ byte_at k (fold patched r ps)
      go (inl f) = f (fold patched r ps) r (shape_by ps e r s) s
      go (inr f) = f (fold patched r ps) (shape_by ps e r s)

  bytes_again : (ps : List Patch) → AllEndIn ps → (r : Region) → HasShape a n r → (fold patched (fold patched r ps) ps).bytes ≡ (fold patched r ps).bytes
  bytes_again ps e r s =
      let t : HasShape a n (fold patched r ps) = shape_by ps e r s in
      let u : HasShape a n (fold patched (fold patched r ps) ps) = shape_by ps e (fold patched r ps) t in
      ext_get_or 0 _ _ (u.1 ∙ sym t.1) (λ k h. byte_again k ps e r s)

permission_one : (r : Region) (p : Patch) → (patched r p).permission ≡ r.permission
permission_one r p = go (covers r p.addr)
  where
    go : (b : Bool) → (cond b (record r { bytes = pasted r.bytes (p.addr - r.start) p.bytes }) r).permission ≡ r.permission
    go true = refl
    go false = refl

pub permission_by : (ps : List Patch) (r : Region) → (fold patched r ps).permission ≡ r.permission
permission_by [] r = refl
permission_by (p ∷ ps) r = permission_by ps (patched r p) ∙ permission_one r p

pub same_region : (r q : Region) → r.start ≡ q.start → r.permission ≡ q.permission → r.bytes ≡ q.bytes → r ≡ q
same_region r q a b c =
    ap (λ (x : ℕ). record { start = x; permission = r.permission; bytes = r.bytes }) a
    ∙ (ap (λ (x : Permission). record { start = q.start; permission = x; bytes = r.bytes }) b
    ∙ ap (λ (x : List ℕ). record { start = q.start; permission = q.permission; bytes = x }) c)

-- made twice in a row, the patches leave what they left the first time
pub patched_again : (ps : List Patch) (r : Region) → AllEndIn r.start (length r.bytes) ps → fold patched (fold patched r ps) ps ≡ fold patched r ps
patched_again ps r e =
    let s : HasShape r.start (length r.bytes) r = (refl, refl) in
    let t : HasShape r.start (length r.bytes) (fold patched r ps) = shape_by r.start (length r.bytes) ps e r s in
    let u : HasShape r.start (length r.bytes) (fold patched (fold patched r ps) ps) = shape_by r.start (length r.bytes) ps e (fold patched r ps) t in
    same_region _ _ (u.0 ∙ sym t.0) (permission_by ps (fold patched r ps)) (bytes_again r.start (length r.bytes) ps e r s)

start_one : (r : Region) (p : Patch) → (patched r p).start ≡ r.start
start_one r p = go (covers r p.addr)
  where
    go : (b : Bool) → (cond b (record r { bytes = pasted r.bytes (p.addr - r.start) p.bytes }) r).start ≡ r.start
    go true = refl
    go false = refl

pub start_by : (ps : List Patch) (r : Region) → (fold patched r ps).start ≡ r.start
start_by [] r = refl
start_by (p ∷ ps) r = start_by ps (patched r p) ∙ start_one r p
