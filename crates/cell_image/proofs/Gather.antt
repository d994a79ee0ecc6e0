-- A list that is gathered number by number.
use Rattle.std.proofs.Common.{◌≡◌, ℕ, zero, suc, ◌+◌, ◌-◌, ◌<◌, ◌≤◌, Bool, true, false, cond, List, [], ◌∷◌, ◌++◌, length, get_or, sym, ap, ◌∙◌, refl, arith, append-nil, Some, None, map, ◌||◌}
use Rattle.std.specs.List.{flat_map, range_with_len, find, list_any}
use Rattle.std.proofs.lemmas.Grind.{flat_map-append}
use Rattle.cell_object.specs.Bytes.{between}
use Rattle.cell_object.proofs.Between.{between-split, between-first}

range_all : {X : Type 0} (f : ℕ → List X) (xs : List X) (a : ℕ) (d : X) → ((k : ℕ) → k < length xs → f (a + k) ≡ get_or xs k d ∷ []) → flat_map f (range_with_len a (length xs)) ≡ xs
range_all f [] a d h = refl
range_all f (x ∷ xs) a d h =
    let e : a ≡ a + 0 = omega arith in
    let rest = range_all f xs (a + 1) d (λ k lt. let n : a + 1 + k ≡ a + suc k = omega arith in ap f n ∙ h (suc k) (omega (arith, lt))) in
    ap (λ v. v ++ flat_map f (range_with_len (a + 1) (length xs))) (ap f e ∙ h 0 (omega arith)) ∙ ap (λ v. x ∷ v) rest

range_none : {X : Type 0} (f : ℕ → List X) (a n : ℕ) → ((k : ℕ) → k < n → f (a + k) ≡ []) → flat_map f (range_with_len a n) ≡ []
range_none f a zero h = refl
range_none f a (suc n) h =
    let e : a ≡ a + 0 = omega arith in
    let rest = range_none f (a + 1) n (λ k lt. let m : a + 1 + k ≡ a + suc k = omega arith in ap f m ∙ h (suc k) (omega (arith, lt))) in
    ap (λ v. v ++ flat_map f (range_with_len (a + 1) n)) (ap f e ∙ h 0 (omega arith)) ∙ rest

-- one each
pub gather_all : {X : Type 0} (f : ℕ → List X) (xs : List X) (a n : ℕ) (d : X) → a + length xs ≡ n → ((k : ℕ) → k < length xs → f (a + k) ≡ get_or xs k d ∷ []) → flat_map f (between a n) ≡ xs
unfolding between
gather_all f xs a n d e h =
    let m : n - a ≡ length xs = omega (arith, e) in
    ap (λ k. flat_map f (range_with_len a k)) m ∙ range_all f xs a d h

-- nothing
pub gather_none : {X : Type 0} (f : ℕ → List X) (a n : ℕ) → ((i : ℕ) → a ≤ i → i < n → f i ≡ []) → flat_map f (between a n) ≡ []
unfolding between
gather_none f a n h = range_none f a (n - a) (λ k lt. h (a + k) (omega arith) (omega (arith, lt)))

-- in two pieces
pub gather_two : {X : Type 0} (f : ℕ → List X) (a j n : ℕ) → a ≤ j → j ≤ n → flat_map f (between a n) ≡ flat_map f (between a j) ++ flat_map f (between j n)
gather_two f a j n h k = ap (flat_map f) (between-split a j n h k) ∙ flat_map-append f (between a j) (between j n)

-- none of the first n passes
pub find_past : (p : ℕ → Bool) (a n : ℕ) (ys : List ℕ) → ((k : ℕ) → k < n → p (a + k) ≡ false) → find p (range_with_len a n ++ ys) ≡ find p ys
find_past p a zero ys h = refl
find_past p a (suc n) ys h =
    let e : a ≡ a + 0 = omega arith in
    ap (λ v. cond v (Some a) (find p (range_with_len (a + 1) n ++ ys))) (ap p e ∙ h 0 (omega arith))
    ∙ find_past p (a + 1) n ys (λ k lt. let m : a + 1 + k ≡ a + suc k = omega arith in ap p m ∙ h (suc k) (omega (arith, lt)))

pub find_none : (p : ℕ → Bool) (a n : ℕ) → ((i : ℕ) → a ≤ i → i < n → p i ≡ false) → find p (between a n) ≡ None
unfolding between
find_none p a n h =
    ap (find p) (sym (append-nil (range_with_len a (n - a))))
    ∙ find_past p a (n - a) [] (λ k lt. h (a + k) (omega arith) (omega (arith, lt)))

find_past_between : (p : ℕ → Bool) (a n : ℕ) (ys : List ℕ) → ((i : ℕ) → a ≤ i → i < n → p i ≡ false) → find p (between a n ++ ys) ≡ find p ys
unfolding between
find_past_between p a n ys h = find_past p a (n - a) ys (λ k lt. h (a + k) (omega arith) (omega (arith, lt)))

-- the first that passes
pub find_first : (p : ℕ → Bool) (a j n : ℕ) → a ≤ j → j < n → ((i : ℕ) → a ≤ i → i < j → p i ≡ false) → p j ≡ true → find p (between a n) ≡ Some j
find_first p a j n low high h here =
    ap (find p) (between-split a j n low (omega (arith, high)) ∙ ap (λ v. between a j ++ v) (between-first j n high))
    ∙ find_past_between p a j (j ∷ between (j + 1) n) h
    ∙ ap (λ v. cond v (Some j) (find p (between (j + 1) n))) here

range_map : {X : Type 0} (f : ℕ → X) (xs : List X) (a : ℕ) (d : X) → ((k : ℕ) → k < length xs → f (a + k) ≡ get_or xs k d) → map f (range_with_len a (length xs)) ≡ xs
range_map f [] a d h = refl
range_map f (x ∷ xs) a d h =
    let e : a ≡ a + 0 = omega arith in
    let rest = range_map f xs (a + 1) d (λ k lt. let n : a + 1 + k ≡ a + suc k = omega arith in ap f n ∙ h (suc k) (omega (arith, lt))) in
    ap (λ v. v ∷ map f (range_with_len (a + 1) (length xs))) (ap f e ∙ h 0 (omega arith)) ∙ ap (λ v. x ∷ v) rest

-- each by its number
pub gather_map : {X : Type 0} (f : ℕ → X) (xs : List X) (a n : ℕ) (d : X) → a + length xs ≡ n → ((k : ℕ) → k < length xs → f (a + k) ≡ get_or xs k d) → map f (between a n) ≡ xs
unfolding between
gather_map f xs a n d e h =
    let m : n - a ≡ length xs = omega (arith, e) in
    ap (λ k. map f (range_with_len a k)) m ∙ range_map f xs a d h

range_flat : {X Y : Type 0} (f : ℕ → List Y) (g : X → List Y) (xs : List X) (a : ℕ) (d : X) → ((k : ℕ) → k < length xs → f (a + k) ≡ g (get_or xs k d)) → flat_map f (range_with_len a (length xs)) ≡ flat_map g xs
range_flat f g [] a d h = refl
range_flat f g (x ∷ xs) a d h =
    let e : a ≡ a + 0 = omega arith in
    let rest = range_flat f g xs (a + 1) d (λ k lt. let n : a + 1 + k ≡ a + suc k = omega arith in ap f n ∙ h (suc k) (omega (arith, lt))) in
    ap (λ v. v ++ flat_map f (range_with_len (a + 1) (length xs))) (ap f e ∙ h 0 (omega arith)) ∙ ap (λ v. g x ++ v) rest

-- a list for each
pub gather_flat : {X Y : Type 0} (f : ℕ → List Y) (g : X → List Y) (xs : List X) (a n : ℕ) (d : X) → a + length xs ≡ n → ((k : ℕ) → k < length xs → f (a + k) ≡ g (get_or xs k d)) → flat_map f (between a n) ≡ flat_map g xs
unfolding between
gather_flat f g xs a n d e h =
    let m : n - a ≡ length xs = omega (arith, e) in
    ap (λ k. flat_map f (range_with_len a k)) m ∙ range_flat f g xs a d h

range_any : (p : ℕ → Bool) (a n : ℕ) → ((k : ℕ) → k < n → p (a + k) ≡ false) → list_any p (range_with_len a n) ≡ false
range_any p a zero h = refl
range_any p a (suc n) h =
    let e : a ≡ a + 0 = omega arith in
    let rest = range_any p (a + 1) n (λ k lt. let m : a + 1 + k ≡ a + suc k = omega arith in ap p m ∙ h (suc k) (omega (arith, lt))) in
    λ i. (ap p e ∙ h 0 (omega arith)) i || rest i

-- none passes
pub any_none : (p : ℕ → Bool) (a n : ℕ) → ((i : ℕ) → a ≤ i → i < n → p i ≡ false) → list_any p (between a n) ≡ false
unfolding between
any_none p a n h = range_any p a (n - a) (λ k lt. h (a + k) (omega arith) (omega (arith, lt)))
