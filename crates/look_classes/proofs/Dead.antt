-- Cells that are not live have no look.
use Rattle.std.proofs.Common.{◌≡◌, ℕ, zero, suc, ◌+◌, ◌<◌, ◌⊎◌, List, [], ◌∷◌, ◌++◌, length, cond, Bool, true, false, Option, Some, None, refl, ap, ◌∙◌, subst, inl, inr, arith}
use Rattle.std.specs.Option.{option_map, option_and_then}
use Rattle.coincidence.specs.Cells.{IsLive}
use Rattle.coincidence.specs.Tables.{kind_of, type_at, joined_to}
use Rattle.look_classes.specs.declared.rule.SideRule.{SideRule}
use Rattle.coincidence.specs.Joined.{IsTable}
use Rattle.region_grower.specs.Regions.{RegionState}
use Rattle.region_grower.specs.Corners.{valence_at}
use Rattle.look_classes.specs.Tree.{sides_of, counted, right_of}
use Rattle.look_classes.specs.Places.{placed, outer_side, rule_of}
use Rattle.look_classes.specs.Looks.{both, each_below, each_where, look_from, side_look, face_look, corner_look, cell_look, has_child}
use Rattle.look_classes.specs.Codes.{first_code, look_code, next_code, number_at, side_code, face_code, cell_code, child_codes, rule_code, flat}
use Rattle.std.proofs.lemmas.Bool.{cases_eq}
use Rattle.look_classes.proofs.Cases.{cases}
use Rattle.look_classes.proofs.Darts.{sides_wide}
use Rattle.look_classes.proofs.Rounds.{placed_dead}

pub both_none : {A B C : Type 0} (f : A → B → C) (x : Option A) → both f x None ≡ None
both_none f None = refl
both_none f (Some x) = refl

pub each_next : {A : Type 0} (n : ℕ) (f : ℕ → Option A) → each_below (suc n) f ≡ both (λ xs x. xs ++ x ∷ []) (each_below n f) (f n)
unfolding each_below
each_next n f = refl

pub each_zero : {A : Type 0} (f : ℕ → Option A) → each_below 0 f ≡ Some []
unfolding each_below
each_zero f = refl

-- one more that is there
pub each_more : {A : Type 0} (n : ℕ) (f : ℕ → Option A) (xs : List A) (x : A) → each_below n f ≡ Some xs → f n ≡ Some x → each_below (n + 1) f ≡ Some (xs ++ x ∷ [])
each_more n f xs x before last =
    let one : n + 1 ≡ suc n = omega arith in
    ap (λ k. each_below k f) one ∙ (each_next n f ∙ (ap (λ o. both (λ xs x. xs ++ x ∷ []) o (f n)) before ∙ ap (λ o. both (λ xs x. xs ++ x ∷ []) (Some xs) o) last))

-- what is not there for one number is not there for all
pub each_none : {A : Type 0} (n j : ℕ) (f : ℕ → Option A) → j < n → f j ≡ None → each_below n f ≡ None
each_none zero j f lt none = absurd (omega (arith, lt))
each_none (suc n) j f lt none = go (λ less. each_none n j f less none) (cases_eq j n)
  where
    go : (j < n → each_below n f ≡ None) → (j ≡ n) ⊎ (j ≡ n → ⊥) → each_below (suc n) f ≡ None
    go before (inl e) = each_next n f ∙ (ap (both (λ xs x. xs ++ x ∷ []) (each_below n f)) (subst (λ k. f k ≡ None) e none) ∙ both_none (λ xs x. xs ++ x ∷ []) (each_below n f))
    go before (inr other) = each_next n f ∙ ap (λ o. both (λ xs x. xs ++ x ∷ []) o (f n)) (before (omega (arith, lt, other)))

pub where_zero : {A : Type 0} (p : ℕ → Bool) (f : ℕ → Option A) → each_where 0 p f ≡ Some []
unfolding each_where
where_zero p f = refl

pub where_skip : {A : Type 0} (n : ℕ) (p : ℕ → Bool) (f : ℕ → Option A) → p n ≡ false → each_where (suc n) p f ≡ each_where n p f
unfolding each_where
where_skip n p f off = ap (λ b. cond b (both (λ xs x. xs ++ x ∷ []) (each_where n p f) (f n)) (each_where n p f)) off

pub where_take : {A : Type 0} (n : ℕ) (p : ℕ → Bool) (f : ℕ → Option A) → p n ≡ true → each_where (suc n) p f ≡ both (λ xs x. xs ++ x ∷ []) (each_where n p f) (f n)
unfolding each_where
where_take n p f sure = ap (λ b. cond b (both (λ xs x. xs ++ x ∷ []) (each_where n p f) (f n)) (each_where n p f)) sure

pub where_none : {A : Type 0} (n j : ℕ) (p : ℕ → Bool) (f : ℕ → Option A) → j < n → p j ≡ true → f j ≡ None → each_where n p f ≡ None
where_none zero j p f lt sure none = absurd (omega (arith, lt))
where_none (suc n) j p f lt sure none = go (λ less. where_none n j p f less sure none) (cases_eq j n) (cases (p n))
  where
    go : (j < n → each_where n p f ≡ None) → (j ≡ n) ⊎ (j ≡ n → ⊥) → (p n ≡ true) ⊎ (p n ≡ false) → each_where (suc n) p f ≡ None
    go before (inl e) _ = where_take n p f (subst (λ k. p k ≡ true) e sure) ∙ (ap (both (λ xs x. xs ++ x ∷ []) (each_where n p f)) (subst (λ k. f k ≡ None) e none) ∙ both_none (λ xs x. xs ++ x ∷ []) (each_where n p f))
    go before (inr other) (inl take_it) = where_take n p f take_it ∙ ap (λ o. both (λ xs x. xs ++ x ∷ []) o (f n)) (before (omega (arith, lt, other)))
    go before (inr other) (inr skip) = where_skip n p f skip ∙ before (omega (arith, lt, other))

module _ (r : RegionState) (table : IsTable r.table) where
  pub dead_placed : (d : ℕ × ℕ) → (IsLive r.table.cells d.0 → ⊥) → placed r d ≡ None
  dead_placed d dead = placed_dead r table (valence_at r.table d) d dead

  pub dead_first : (d : ℕ × ℕ) → (IsLive r.table.cells d.0 → ⊥) → first_code r d ≡ None
  unfolding first_code
  dead_first d dead = ap (option_and_then (λ b. look_code r b.1)) (dead_placed d dead)

  pub dead_next : (firsts corners : List (Option ℕ)) (d : ℕ × ℕ) → (IsLive r.table.cells d.0 → ⊥) → next_code r firsts corners d ≡ None
  unfolding next_code
  dead_next firsts corners d dead = ap (λ o. both (λ a b. a ∷ b ∷ []) (number_at r firsts d) (option_and_then (number_at r corners) (option_map (λ b. right_of r b.1) o))) (dead_placed d dead) ∙ both_none (λ a b. a ∷ b ∷ []) (number_at r firsts d)

  pub dead_side : (corners : List (Option ℕ)) (c j : ℕ) → (IsLive r.table.cells c → ⊥) → side_code r corners c j ≡ None
  unfolding side_code
  dead_side corners c j dead =
      ap (λ o. both (λ (x : ℕ × ℕ) k. (x.0, x.1, k)) (both (λ rule p. (rule_code rule, p)) (rule_of r c j) (option_map (λ b. b.0) o)) (number_at r corners (counted r c j))) (dead_placed (counted r c j) dead) ∙ ap (λ o. both (λ (x : ℕ × ℕ) k. (x.0, x.1, k)) o (number_at r corners (counted r c j))) (both_none (λ rule p. (rule_code rule, p)) (rule_of r c j))

  pub dead_face : (corners : List (Option ℕ)) (c : ℕ) → (IsLive r.table.cells c → ⊥) → c < length r.table.origins → face_code r corners c ≡ None
  unfolding face_code
  dead_face corners c dead made =
      let wide = (sides_wide r table c made).0 in
      ap (option_map (λ ss. kind_of r.table.origins c ∷ (type_at r.table (counted r c 0)).1 ∷ flat ss)) (each_none (sides_of r c) 0 (side_code r corners c) (omega (arith, wide)) (dead_side corners c 0 dead))

  pub dead_cell : (corners cells : List (Option ℕ)) (c : ℕ) → (IsLive r.table.cells c → ⊥) → c < length r.table.origins → cell_code r corners cells c ≡ None
  unfolding cell_code
  dead_cell corners cells c dead made = ap (λ o. both (λ f m. f ++ m) o (child_codes r cells c)) (dead_face corners c dead made)

pub flat_more : (xs : List (ℕ × ℕ × ℕ)) (x : ℕ × ℕ × ℕ) → flat (xs ++ x ∷ []) ≡ flat xs ++ x.0 ∷ x.1 ∷ x.2 ∷ []
flat_more [] x = refl
flat_more (y ∷ ys) x = ap (λ l. y.0 ∷ y.1 ∷ y.2 ∷ l) (flat_more ys x)

pub three : (xs : List ℕ) (a b c : ℕ) → ((xs ++ a ∷ []) ++ b ∷ []) ++ c ∷ [] ≡ xs ++ a ∷ b ∷ c ∷ []
three [] a b c = refl
three (x ∷ xs) a b c = ap (λ l. x ∷ l) (three xs a b c)

module _ (r : RegionState) (table : IsTable r.table) where
  pub dead_look : (h : ℕ) (d : ℕ × ℕ) → (IsLive r.table.cells d.0 → ⊥) → corner_look h r d ≡ None
  unfolding corner_look
  dead_look zero d dead = ap (λ o. option_map (λ x. x ∷ []) (option_and_then (λ b. look_from r b.1) o)) (dead_placed r table d dead)
  dead_look (suc h) d dead = ap (λ o. both (λ x xs. x ∷ xs) (option_and_then (λ b. look_from r b.1) o) (option_and_then (corner_look h r) (outer_side r d))) (dead_placed r table d dead)

  dead_side_look : (h c j : ℕ) → (IsLive r.table.cells c → ⊥) → side_look h r c j ≡ None
  unfolding side_look
  dead_side_look h c j dead =
      ap (λ o. both (λ (x : SideRule × ℕ) corner. record { rule = x.0; place = x.1; corner = corner }) (both (λ rule p. (rule, p)) (rule_of r c j) (option_map (λ b. b.0) o)) (corner_look h r (counted r c j))) (dead_placed r table (counted r c j) dead) ∙ ap (λ o. both (λ (x : SideRule × ℕ) corner. record { rule = x.0; place = x.1; corner = corner }) o (corner_look h r (counted r c j))) (both_none (λ rule p. (rule, p)) (rule_of r c j))

  pub dead_face_look : (h c : ℕ) → (IsLive r.table.cells c → ⊥) → c < length r.table.origins → face_look h r c ≡ None
  unfolding face_look
  dead_face_look h c dead made =
      let wide = (sides_wide r table c made).0 in
      ap (option_map (λ sides. record { kind = kind_of r.table.origins c; residue = (type_at r.table (counted r c 0)).1; sides = sides })) (each_none (sides_of r c) 0 (side_look h r c) (omega (arith, wide)) (dead_side_look h c 0 dead))

  pub dead_cell_look : (h c : ℕ) → (IsLive r.table.cells c → ⊥) → c < length r.table.origins → cell_look h r c ≡ None
  unfolding cell_look
  dead_cell_look zero c dead made = dead_face_look 0 c dead made
  dead_cell_look (suc h) c dead made = ap (λ o. both (λ face children. (face, children)) o (each_where (sides_of r c) (has_child r c) (λ j. option_and_then (λ e. cell_look h r e.0) (joined_to r.table (counted r c j))))) (dead_face_look (suc h) c dead made)
