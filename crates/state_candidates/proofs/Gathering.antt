-- The readers of all regions, and how many states and corner types they have.
use Rattle.std.proofs.Common.{◌≡◌, ℕ, zero, suc, ◌+◌, ◌<◌, ◌≤◌, List, [], ◌∷◌, ◌++◌, take, length, sum_by, refl, sym, ap, ◌∙◌, subst, inl, inr, arith, add-one}
use Rattle.std.proofs.Math.ListN.{length-append, get_or-append}
use Rattle.std.proofs.Math.Seq.{take-suc, take-length}
use Rattle.std.proofs.Math.Nat.{eq-or-lt_of_le}
use Rattle.std.proofs.lemmas.List.{take-append-le, map-append, length-map, get_or-map, get_or_push}
use Rattle.std.proofs.lemmas.List.Sums.{sum_by-append, sum_by-take-le}
use Rattle.look_classes.specs.Classes.{ClassLists, AreClasses}
use Rattle.look_classes.specs.States.{LooksState}
use Rattle.state_candidates.specs.Candidates.{no_lists, lists_at, looks_at, states_before, corners_before}
use Rattle.state_candidates.specs.Readers.{ReaderState, IsReader}
use Rattle.state_candidates.specs.Gathered.{no_reader, reader_at, lists_of, IsReaderAt, AreReadersOf, AreClassesOf, HasTooMany}
use Rattle.state_candidates.proofs.Numbered.{same_classes}

pub before_more : (f : ClassLists → ℕ) (lists : List ClassLists) (k : ℕ) → k < length lists → sum_by f (take (k + 1) lists) ≡ sum_by f (take k lists) + f (lists_at lists k)
before_more f lists k below =
    let one : take (k + 1) lists ≡ take k lists ++ lists_at lists k ∷ [] = ap (λ n. take n lists) (add-one k) ∙ take-suc lists k no_lists below in
    ap (sum_by f) one ∙ omega (arith, sum_by-append f (take k lists) (lists_at lists k ∷ []))

pub before_same : (f : ClassLists → ℕ) (xs ys : List ClassLists) (k : ℕ) → k ≤ length xs → k ≤ length ys → ((j : ℕ) → j < k → lists_at xs j ≡ lists_at ys j) → sum_by f (take k xs) ≡ sum_by f (take k ys)
before_same f xs ys zero x y same = refl
before_same f xs ys (suc k) x y same =
    let here : f (lists_at xs k) ≡ f (lists_at ys k) = ap f (same k (omega arith)) in
    let before = before_same f xs ys k (omega (arith, x)) (omega (arith, y)) (λ j less. same j (omega (arith, less))) in
    let one : sum_by f (take (k + 1) xs) ≡ sum_by f (take (k + 1) ys) = omega (arith, before_more f xs k (omega (arith, x)), before_more f ys k (omega (arith, y)), here, before) in
    subst (λ n. sum_by f (take n xs) ≡ sum_by f (take n ys)) (add-one k) one

pub before_append : (f : ClassLists → ℕ) (xs ys : List ClassLists) (k : ℕ) → k ≤ length xs → sum_by f (take k (xs ++ ys)) ≡ sum_by f (take k xs)
before_append f xs ys k within = ap (sum_by f) (take-append-le k xs ys within)

pub lists_more : (rs : List ReaderState) (v : ReaderState) → lists_of (rs ++ v ∷ []) ≡ lists_of rs ++ v.lists ∷ []
lists_more rs v = map-append (λ (w : ReaderState). w.lists) rs (v ∷ [])

pub lists_long : (rs : List ReaderState) → length (lists_of rs) ≡ length rs
lists_long rs = length-map rs (λ (w : ReaderState). w.lists)

pub lists_read : (rs : List ReaderState) (k : ℕ) → k < length rs → lists_at (lists_of rs) k ≡ (reader_at rs k).lists
lists_read rs k below = get_or-map (λ (w : ReaderState). w.lists) rs k no_reader no_lists below

-- the numbers before k do not change where a reader is added behind
before_kept : (f : ClassLists → ℕ) (rs : List ReaderState) (v : ReaderState) (k : ℕ) → k ≤ length rs → sum_by f (take k (lists_of (rs ++ v ∷ []))) ≡ sum_by f (take k (lists_of rs))
before_kept f rs v k within = ap (λ ls. sum_by f (take k ls)) (lists_more rs v) ∙ before_append f (lists_of rs) (v.lists ∷ []) k (omega (arith, within, lists_long rs))

-- one reader more
pub before_next : (f : ClassLists → ℕ) (rs : List ReaderState) (v : ReaderState) (i : ℕ) → length rs ≡ i → sum_by f (take (i + 1) (lists_of (rs ++ v ∷ []))) ≡ sum_by f (take i (lists_of rs)) + f v.lists
before_next f rs v i long =
    let whole = lists_of (rs ++ v ∷ []) in
    let count : length whole ≡ i + 1 = omega (arith, lists_long (rs ++ v ∷ []), length-append rs (v ∷ []), long) in
    let last : lists_at whole i ≡ v.lists = lists_read (rs ++ v ∷ []) i (omega (arith, length-append rs (v ∷ []), long)) ∙ ap (λ (w : ReaderState). w.lists) (get_or_push rs v no_reader i long) in
    omega (arith, before_more f whole i (omega (arith, count)), before_kept f rs v i (omega (arith, long)), ap f last)

pub readers_more : (looks : List LooksState) (rs : List ReaderState) (v : ReaderState) (i : ℕ) → length rs ≡ i → AreReadersOf looks rs
    → v.region ≡ (looks_at looks i).region → v.horizon ≡ (looks_at looks i).horizon → IsReader v
    → v.first_state ≡ states_before (lists_of rs) i → v.first_corner ≡ corners_before (lists_of rs) i
    → AreReadersOf looks (rs ++ v ∷ [])
readers_more looks rs v i long h region horizon ok states corners = record {
  readers_ok = λ k below. at k below (λ k. IsReaderAt (rs ++ v ∷ []) k) (λ w. old k w) (λ w. new k w);
  region = λ k below. at k below (λ k. (reader_at (rs ++ v ∷ []) k).region ≡ (looks_at looks k).region)
      (λ less. ap (λ (w : ReaderState). w.region) (kept k less) ∙ h.region k less)
      (λ same. ap (λ (w : ReaderState). w.region) (last k same) ∙ (region ∙ ap (λ n. (looks_at looks n).region) (sym same)));
  horizon = λ k below. at k below (λ k. (reader_at (rs ++ v ∷ []) k).horizon ≡ (looks_at looks k).horizon)
      (λ less. ap (λ (w : ReaderState). w.horizon) (kept k less) ∙ h.horizon k less)
      (λ same. ap (λ (w : ReaderState). w.horizon) (last k same) ∙ (horizon ∙ ap (λ n. (looks_at looks n).horizon) (sym same)));
}
  where
    kept : (k : ℕ) → k < length rs → reader_at (rs ++ v ∷ []) k ≡ reader_at rs k
    kept k less = get_or-append rs (v ∷ []) no_reader k less

    last : (k : ℕ) → k ≡ i → reader_at (rs ++ v ∷ []) k ≡ v
    last k same = get_or_push rs v no_reader k (long ∙ sym same)

    at : (k : ℕ) → k < length (rs ++ v ∷ []) → (P : ℕ → Type 0) → (k < length rs → P k) → (k ≡ i → P k) → P k
    at k below P less same =
        let le : k ≤ i = omega (arith, below, length-append rs (v ∷ []), long) in
        elim (eq-or-lt_of_le le) [ inl e ↦ same e | inr lower ↦ less (omega (arith, lower, long)) ]

    old : (k : ℕ) → k < length rs → IsReaderAt (rs ++ v ∷ []) k
    old k less =
        let was = h.readers_ok k less in
        record {
          reader = subst IsReader (sym (kept k less)) was.reader;
          first_state = ap (λ (w : ReaderState). w.first_state) (kept k less) ∙ (was.first_state ∙ sym (before_kept (λ x. x.cell_count) rs v k (omega (arith, less))));
          first_corner = ap (λ (w : ReaderState). w.first_corner) (kept k less) ∙ (was.first_corner ∙ sym (before_kept (λ x. x.corner_count) rs v k (omega (arith, less))));
        }

    new : (k : ℕ) → k ≡ i → IsReaderAt (rs ++ v ∷ []) k
    new k same =
        let within : k ≤ length rs = omega (arith, same, long) in
        record {
          reader = subst IsReader (sym (last k same)) ok;
          first_state = ap (λ (w : ReaderState). w.first_state) (last k same) ∙ (states ∙ (ap (states_before (lists_of rs)) (sym same) ∙ sym (before_kept (λ x. x.cell_count) rs v k within)));
          first_corner = ap (λ (w : ReaderState). w.first_corner) (last k same) ∙ (corners ∙ (ap (corners_before (lists_of rs)) (sym same) ∙ sym (before_kept (λ x. x.corner_count) rs v k within)));
        }

-- the classes of the readers are those of the looks
pub lists_agree : (looks : List LooksState) (rs : List ReaderState) → length rs ≤ length looks → AreReadersOf looks rs → (lists : List ClassLists) → AreClassesOf looks lists
    → (k : ℕ) → k < length rs → lists_at lists k ≡ (reader_at rs k).lists
lists_agree looks rs within h lists ok k below =
    let v = reader_at rs k in
    let theirs = ok.each k (omega (arith, below, within)) in
    let mine : AreClasses (looks_at looks k).horizon (looks_at looks k).region v.lists = subst (λ n. AreClasses n (looks_at looks k).region v.lists) (h.horizon k below) (subst (λ r. AreClasses v.horizon r v.lists) (h.region k below) (h.readers_ok k below).reader.classes) in
    same_classes (looks_at looks k).horizon (looks_at looks k).region (lists_at lists k) v.lists theirs mine

-- so many states or corner types before some reader, and in all
over : (f : ClassLists → ℕ) (looks : List LooksState) (rs : List ReaderState) (i : ℕ) → length rs ≡ i → i < length looks → AreReadersOf looks rs → (x : ClassLists)
    → AreClasses (looks_at looks i).horizon (looks_at looks i).region x → (lists : List ClassLists) → AreClassesOf looks lists
    → sum_by f (take i (lists_of rs)) + f x ≤ sum_by f (take (length looks) lists)
over f looks rs i long below h x mine lists ok =
    let agree = lists_agree looks rs (omega (arith, long, below)) h lists ok in
    let before = before_same f lists (lists_of rs) i (omega (arith, ok.long, below)) (omega (arith, lists_long rs, long)) (λ j less. agree j (omega (arith, less, long)) ∙ sym (lists_read rs j (omega (arith, less, long)))) in
    let here : f (lists_at lists i) ≡ f x = ap f (same_classes (looks_at looks i).horizon (looks_at looks i).region (lists_at lists i) x (ok.each i below) mine) in
    let whole : take (length looks) lists ≡ lists = ap (λ n. take n lists) (sym ok.long) ∙ take-length lists in
    let all : sum_by f (take (length looks) lists) ≡ sum_by f lists = ap (sum_by f) whole in
    omega (arith, before, here, before_more f lists i (omega (arith, ok.long, below)), sum_by-take-le f lists (i + 1), all)

pub too_many : (looks : List LooksState) (rs : List ReaderState) (i : ℕ) → length rs ≡ i → i < length looks → AreReadersOf looks rs → (x : ClassLists)
    → AreClasses (looks_at looks i).horizon (looks_at looks i).region x
    → ¬ ((states_before (lists_of rs) i + x.cell_count ≤ 100000) × (corners_before (lists_of rs) i + x.corner_count ≤ 20000)) → HasTooMany looks
too_many looks rs i long below h x mine many lists ok few_states few_corners =
    many (omega (arith, few_states, over (λ x. x.cell_count) looks rs i long below h x mine lists ok), omega (arith, few_corners, over (λ x. x.corner_count) looks rs i long below h x mine lists ok))
