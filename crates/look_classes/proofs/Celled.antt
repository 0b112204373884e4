-- The codes of looks at cells stand for the looks.
use Rattle.std.proofs.Common.{◌≡◌, ℕ, zero, suc, ◌+◌, ◌<◌, ◌⊎◌, ◌↔◌, List, [], ◌∷◌, ◌++◌, length, true, Option, Some, None, refl, sym, ap, ap₂, ◌∙◌, subst, inl, inr, arith}
use Rattle.std.proofs.lemmas.List.{length_push}
use Rattle.tile_model.specs.Tessellations.{kind_at}
use Rattle.std.specs.Option.{option_map, option_and_then}
use Rattle.coincidence.specs.Cells.{IsLive}
use Rattle.coincidence.specs.Tables.{joined_to, kind_of, type_at}
use Rattle.coincidence.specs.Joined.{IsTable}
use Rattle.region_grower.specs.Ways.{IsDart}
use Rattle.region_grower.specs.Regions.{RegionState}
use Rattle.look_classes.specs.declared.rule.SideRule.{SideRule}
use Rattle.look_classes.specs.declared.rule.SideRule.TheVariants.{Parent, Child, Left, Right}
use Rattle.look_classes.specs.Tree.{sides_of, counted}
use Rattle.look_classes.specs.Places.{place, rule_of}
use Rattle.look_classes.specs.Looks.{both, each_below, each_where, CornerLook, corner_look, SideLook, FaceLook, side_look, face_look, CellLook, cell_look, has_child}
use Rattle.look_classes.specs.Numbers.{entry}
use Rattle.look_classes.specs.Classes.{made}
use Rattle.look_classes.specs.Codes.{number_at, rule_code, side_code, flat, face_code, child_code, child_codes, cell_code}
use Rattle.look_classes.proofs.Exact.{SameBy, same_self, same_both, same_then, same_left, same_right, map_none, map_some, both_some, both_split, both_off, some_one, Zipped, each_zipped, where_zipped, each_missing, where_missing, zipped_on, zipped_back}
use Rattle.look_classes.proofs.Darts.{dart_there, joined_dart, dart_made}
use Rattle.look_classes.proofs.Dead.{each_next, each_zero}

rule_of_code : ℕ → SideRule
rule_of_code zero = Parent
rule_of_code (suc zero) = Child
rule_of_code (suc (suc zero)) = Left
rule_of_code (suc (suc (suc n))) = Right

rule_back : (rule : SideRule) → rule_of_code (rule_code rule) ≡ rule
unfolding rule_of_code
rule_back Parent = refl
rule_back Child = refl
rule_back Left = refl
rule_back Right = refl

rule_one : (a b : SideRule) → rule_code a ≡ rule_code b → a ≡ b
rule_one a b e = sym (rule_back a) ∙ (ap rule_of_code e ∙ rule_back b)

-- lists of threes, one behind another list
flat_split : (xs ys : List (ℕ × ℕ × ℕ)) (m n : List ℕ) → length xs ≡ length ys → flat xs ++ m ≡ flat ys ++ n → (xs ≡ ys) × (m ≡ n)
flat_split [] [] m n long e = (refl, e)
flat_split [] (y ∷ ys) m n long e = absurd (omega (arith, long))
flat_split (x ∷ xs) [] m n long e = absurd (omega (arith, long))
flat_split (x ∷ xs) (y ∷ ys) m n long e =
    let rest = flat_split xs ys m n (omega (arith, long)) (fourth e) in
    (ap₂ (λ a b. a ∷ b) (heads e) rest.0, rest.1)
  where
    fourth : x.0 ∷ x.1 ∷ x.2 ∷ (flat xs ++ m) ≡ y.0 ∷ y.1 ∷ y.2 ∷ (flat ys ++ n) → flat xs ++ m ≡ flat ys ++ n
    fourth e = cc (e)

    heads : x.0 ∷ x.1 ∷ x.2 ∷ (flat xs ++ m) ≡ y.0 ∷ y.1 ∷ y.2 ∷ (flat ys ++ n) → x ≡ y
    heads e =
        let a : x.0 ≡ y.0 = cc (e) in
        let b : x.1 ≡ y.1 = cc (e) in
        let c : x.2 ≡ y.2 = cc (e) in
        ap (λ k. (k, x.1, x.2)) a ∙ (ap (λ k. (y.0, k, x.2)) b ∙ ap (λ k. (y.0, y.1, k)) c)

each_long : {A : Type 0} (n : ℕ) (f : ℕ → Option A) (xs : List A) → each_below n f ≡ Some xs → length xs ≡ n
each_long {A} n f xs e = (each_zipped {A = A} {B = ℕ} (λ _ _. Unit {0}) (λ _. true) f (λ _. Some 0) n (λ _ _ _ _ _ _. tt) xs (zeros n) e (all_zeros n)).long ∙ zeros_long n
  where
    zeros : ℕ → List ℕ
    zeros zero = []
    zeros (suc n) = zeros n ++ 0 ∷ []

    all_zeros : (n : ℕ) → each_below n (λ _. Some 0) ≡ Some (zeros n)
    all_zeros zero = each_zero (λ _. Some 0)
    all_zeros (suc n) = each_next n (λ _. Some 0) ∙ ap (λ o. both (λ xs x. xs ++ x ∷ []) o (Some 0)) (all_zeros n)

    zeros_long : (n : ℕ) → length (zeros n) ≡ n
    zeros_long zero = refl
    zeros_long (suc n) = length_push (zeros n) 0 ∙ (ap (λ k. k + 1) (zeros_long n) ∙ omega arith)

module _ (r : RegionState) (table : IsTable r.table) (corners : List (Option ℕ)) (h : ℕ) (by_corner : SameBy (IsDart r.table) (number_at r corners) (corner_look h r)) where
  abbrev live_side : ℕ × ℕ → Type 0
  live_side s = IsLive r.table.cells s.0

  abbrev both_codes : ℕ × ℕ → Option (ℕ × ℕ)
  both_codes s = both (λ rule p. (rule_code rule, p)) (rule_of r s.0 s.1) (place r (counted r s.0 s.1))

  abbrev both_looks : ℕ × ℕ → Option (SideRule × ℕ)
  both_looks s = both (λ rule p. (rule, p)) (rule_of r s.0 s.1) (place r (counted r s.0 s.1))

  code_is : (s : ℕ × ℕ) → side_code r corners s.0 s.1 ≡ both (λ (x : ℕ × ℕ) k. (x.0, x.1, k)) (both_codes s) (option_and_then (number_at r corners) (Some (counted r s.0 s.1)))
  unfolding side_code
  code_is s = refl

  look_is : (s : ℕ × ℕ) → side_look h r s.0 s.1 ≡ both (λ (x : SideRule × ℕ) corner. record { rule = x.0; place = x.1; corner = corner }) (both_looks s) (option_and_then (corner_look h r) (Some (counted r s.0 s.1)))
  unfolding side_look
  look_is s = refl

  side_same : SameBy live_side (λ s. side_code r corners s.0 s.1) (λ s. side_look h r s.0 s.1)
  side_same =
      same_left live_side (λ s. side_code r corners s.0 s.1) (λ s. both (λ (x : ℕ × ℕ) k. (x.0, x.1, k)) (both_codes s) (option_and_then (number_at r corners) (Some (counted r s.0 s.1)))) (λ s. side_look h r s.0 s.1) (λ s _. code_is s)
      (same_right live_side (λ s. both (λ (x : ℕ × ℕ) k. (x.0, x.1, k)) (both_codes s) (option_and_then (number_at r corners) (Some (counted r s.0 s.1)))) (λ s. side_look h r s.0 s.1) (λ s. both (λ (x : SideRule × ℕ) corner. record { rule = x.0; place = x.1; corner = corner }) (both_looks s) (option_and_then (corner_look h r) (Some (counted r s.0 s.1)))) (λ s _. look_is s)
      (same_both live_side (λ (x : ℕ × ℕ) k. (x.0, x.1, k)) (λ (x : SideRule × ℕ) corner. record { rule = x.0; place = x.1; corner = corner }) both_codes both_looks (λ s. option_and_then (number_at r corners) (Some (counted r s.0 s.1))) (λ s. option_and_then (corner_look h r) (Some (counted r s.0 s.1)))
      three_one look_one
      (same_both live_side (λ rule p. (rule_code rule, p)) (λ rule p. (rule, p)) (λ s. rule_of r s.0 s.1) (λ s. rule_of r s.0 s.1) (λ s. place r (counted r s.0 s.1)) (λ s. place r (counted r s.0 s.1)) code_one pair_one (same_self live_side (λ s. rule_of r s.0 s.1)) (same_self live_side (λ s. place r (counted r s.0 s.1))))
      (same_then live_side (IsDart r.table) (λ s. Some (counted r s.0 s.1)) (number_at r corners) (corner_look h r) (λ s d live is. subst (IsDart r.table) (some_one (counted r s.0 s.1) d is) (dart_there r table s.0 _ live)) by_corner)))
    where
      three_one : (x x' : ℕ × ℕ) (y y' : ℕ) → ◌≡◌ {A = ℕ × ℕ × ℕ} (x.0, x.1, y) (x'.0, x'.1, y') → (x ≡ x') × (y ≡ y')
      three_one x x' y y' e = (ap (λ (t : ℕ × ℕ × ℕ). (t.0, t.1)) e, ap (λ (t : ℕ × ℕ × ℕ). t.2) e)

      look_one : (x x' : SideRule × ℕ) (y y' : List CornerLook) → ◌≡◌ {A = SideLook} (record { rule = x.0; place = x.1; corner = y }) (record { rule = x'.0; place = x'.1; corner = y' }) → (x ≡ x') × (y ≡ y')
      look_one x x' y y' e = (ap (λ (l : SideLook). (l.rule, l.place)) e, ap (λ (l : SideLook). l.corner) e)

      code_one : (x x' : SideRule) (y y' : ℕ) → ◌≡◌ {A = ℕ × ℕ} (rule_code x, y) (rule_code x', y') → (x ≡ x') × (y ≡ y')
      code_one x x' y y' e = (rule_one x x' (ap (λ (t : ℕ × ℕ). t.0) e), ap (λ (t : ℕ × ℕ). t.1) e)

      pair_one : (x x' : SideRule) (y y' : ℕ) → ◌≡◌ {A = SideRule × ℕ} (x, y) (x', y') → (x ≡ x') × (y ≡ y')
      pair_one x x' y y' e = (ap (λ (t : SideRule × ℕ). t.0) e, ap (λ (t : SideRule × ℕ). t.1) e)

  -- a side with its code and its look
  record IsSide (m : ℕ × ℕ × ℕ) (l : SideLook) : Type 0 where
    pub at : ℕ × ℕ
    pub live : IsLive r.table.cells at.0
    pub coded : side_code r corners at.0 at.1 ≡ Some m
    pub looked : side_look h r at.0 at.1 ≡ Some l

  side_on : (m m' : ℕ × ℕ × ℕ) (l l' : SideLook) → IsSide m l → IsSide m' l' → m ≡ m' → l ≡ l'
  side_on m m' l l' a b e = (side_same.one a.at b.at m m' l l' a.live b.live a.coded b.coded a.looked b.looked).0 e

  side_back : (m m' : ℕ × ℕ × ℕ) (l l' : SideLook) → IsSide m l → IsSide m' l' → l ≡ l' → m ≡ m'
  side_back m m' l l' a b e = (side_same.one a.at b.at m m' l l' a.live b.live a.coded b.coded a.looked b.looked).1 e

  abbrev front : ℕ → List (ℕ × ℕ × ℕ) → List ℕ
  front c ss = kind_of r.table.origins c ∷ (type_at r.table (counted r c 0)).1 ∷ flat ss

  abbrev face : ℕ → List SideLook → FaceLook
  face c sides = record { kind = kind_of r.table.origins c; residue = (type_at r.table (counted r c 0)).1; sides = sides }

  face_code_is : (c : ℕ) → face_code r corners c ≡ option_map (front c) (each_below (sides_of r c) (side_code r corners c))
  unfolding face_code
  face_code_is c = refl

  face_look_is : (c : ℕ) → face_look h r c ≡ option_map (face c) (each_below (sides_of r c) (side_look h r c))
  unfolding face_look
  face_look_is c = refl

  -- what stands behind a face
  record IsFace (c : ℕ) (a : List ℕ) (u : FaceLook) : Type 0 where
    pub codes : List (ℕ × ℕ × ℕ)
    pub looks : List SideLook
    pub long : length codes ≡ sides_of r c
    pub zipped : Zipped IsSide codes looks
    pub coded : front c codes ≡ a
    pub looked : face c looks ≡ u

  face_there : (c : ℕ) (a : List ℕ) (u : FaceLook) → IsLive r.table.cells c → face_code r corners c ≡ Some a → face_look h r c ≡ Some u → IsFace c a u
  face_there c a u live fa gu =
      let a' = map_some (λ (_ : ℕ). ℕ) (front c) (each_below (sides_of r c) (side_code r corners c)) a (sym (face_code_is c) ∙ fa) in
      let u' = map_some (λ (_ : ℕ). ℕ) (face c) (each_below (sides_of r c) (side_look h r c)) u (sym (face_look_is c) ∙ gu) in
      record {
        codes = a'.0;
        looks = u'.0;
        long = each_long (sides_of r c) (side_code r corners c) a'.0 a'.1;
        zipped = each_zipped IsSide (λ _. true) (side_code r corners c) (side_look h r c) (sides_of r c) (λ j m l _ x y. record { at = (c, j); live = live; coded = x; looked = y }) a'.0 u'.0 a'.1 u'.1;
        coded = a'.2;
        looked = u'.2;
      }

  -- faces with something behind are the same exactly where both are
  face_split : (c c' : ℕ) (a b : List ℕ) (u v : FaceLook) (m n : List ℕ) → IsFace c a u → IsFace c' b v → a ++ m ≡ b ++ n → (u ≡ v) × (m ≡ n)
  face_split c c' a b u v m n x y e =
      split (ap (λ l. l ++ m) x.coded ∙ (e ∙ sym (ap (λ l. l ++ n) y.coded)))
    where
      split : kind_of r.table.origins c ∷ (type_at r.table (counted r c 0)).1 ∷ (flat x.codes ++ m) ≡ kind_of r.table.origins c' ∷ (type_at r.table (counted r c' 0)).1 ∷ (flat y.codes ++ n) → (u ≡ v) × (m ≡ n)
      split s =
          let kind : kind_of r.table.origins c ≡ kind_of r.table.origins c' = cc (s) in
          let residue : (type_at r.table (counted r c 0)).1 ≡ (type_at r.table (counted r c' 0)).1 = cc (s) in
          let rest : flat x.codes ++ m ≡ flat y.codes ++ n = cc (s) in
          let wide : sides_of r c ≡ sides_of r c' = ap (λ k. (kind_at r.table.kinds k).sides) kind in
          let w = flat_split x.codes y.codes m n (x.long ∙ (wide ∙ sym y.long)) rest in
          let sides = zipped_on IsSide side_on x.codes y.codes x.looks y.looks x.zipped y.zipped w.0 in
          (sym x.looked ∙ (ap (λ k. record { kind = k; residue = (type_at r.table (counted r c 0)).1; sides = x.looks }) kind ∙ (ap (λ k. record { kind = kind_of r.table.origins c'; residue = k; sides = x.looks }) residue ∙ (ap (face c') sides ∙ y.looked))), w.1)

  face_back : (c c' : ℕ) (a b : List ℕ) (u v : FaceLook) → IsFace c a u → IsFace c' b v → u ≡ v → a ≡ b
  face_back c c' a b u v x y e =
      let whole : face c x.looks ≡ face c' y.looks = x.looked ∙ (e ∙ sym y.looked) in
      let kind : kind_of r.table.origins c ≡ kind_of r.table.origins c' = ap (λ (f : FaceLook). f.kind) whole in
      let residue : (type_at r.table (counted r c 0)).1 ≡ (type_at r.table (counted r c' 0)).1 = ap (λ (f : FaceLook). f.residue) whole in
      let looks : x.looks ≡ y.looks = ap (λ (f : FaceLook). f.sides) whole in
      let codes = zipped_back IsSide side_back x.codes y.codes x.looks y.looks x.zipped y.zipped looks in
      sym x.coded ∙ (ap (λ k. k ∷ (type_at r.table (counted r c 0)).1 ∷ flat x.codes) kind ∙ (ap (λ k. kind_of r.table.origins c' ∷ k ∷ flat x.codes) residue ∙ (ap (front c') codes ∙ y.coded)))

  pub face_same : SameBy (IsLive r.table.cells) (face_code r corners) (face_look h r)
  face_same = record {
    none = λ c live n. face_look_is c ∙ ap (option_map (face c)) (each_missing IsSide (λ _. true) (side_code r corners c) (side_look h r c) (sides_of r c) (λ j _ e. side_same.none (c, j) live e) (map_none (λ (_ : ℕ). ℕ) (front c) (each_below (sides_of r c) (side_code r corners c)) (sym (face_code_is c) ∙ n)));
    back = λ c live n. face_code_is c ∙ ap (option_map (front c)) (each_missing (λ (_ : SideLook) (_ : ℕ × ℕ × ℕ). Unit {0}) (λ _. true) (side_look h r c) (side_code r corners c) (sides_of r c) (λ j _ e. side_same.back (c, j) live e) (map_none (λ (_ : ℕ). ℕ) (face c) (each_below (sides_of r c) (side_look h r c)) (sym (face_look_is c) ∙ n)));
    one = λ x y a b u v p q fa fb gu gv.
        let s = face_there x a u p fa gu in
        let t = face_there y b v q fb gv in
        (λ e. (face_split x y a b u v [] [] s t (ap (λ l. l ++ []) e)).0, λ e. face_back x y a b u v s t e);
  }

-- with the cells across the sides of the children
module _ (r : RegionState) (table : IsTable r.table) (corners cells : List (Option ℕ)) (h : ℕ) (by_corner : SameBy (IsDart r.table) (number_at r corners) (corner_look (suc h) r)) (by_cell : SameBy (λ c. c < made r) (entry cells) (cell_look h r)) where
  abbrev child_look : ℕ → ℕ → Option (CellLook h)
  child_look c j = option_and_then (λ e. cell_look h r e.0) (joined_to r.table (counted r c j))

  child_is : (s : ℕ × ℕ) → child_code r cells s.0 s.1 ≡ option_and_then (λ e. entry cells e.0) (joined_to r.table (counted r s.0 s.1))
  unfolding child_code
  child_is s = refl

  child_same : SameBy (λ s. IsLive r.table.cells s.0) (λ (s : ℕ × ℕ). child_code r cells s.0 s.1) (λ s. child_look s.0 s.1)
  child_same =
      same_left (λ (s : ℕ × ℕ). IsLive r.table.cells s.0) (λ s. child_code r cells s.0 s.1) (λ s. option_and_then (λ e. entry cells e.0) (joined_to r.table (counted r s.0 s.1))) (λ s. child_look s.0 s.1) (λ s _. child_is s)
      (same_then (λ (s : ℕ × ℕ). IsLive r.table.cells s.0) (λ (e : ℕ × ℕ). e.0 < made r) (λ s. joined_to r.table (counted r s.0 s.1)) (λ e. entry cells e.0) (λ e. cell_look h r e.0) (λ s e _ is. dart_made r table e (joined_dart r table (counted r s.0 s.1) e is)) (record {
        none = λ x p n. by_cell.none x.0 p n;
        back = λ x p n. by_cell.back x.0 p n;
        one = λ x y a b u v p q fa fb gu gv. by_cell.one x.0 y.0 a b u v p q fa fb gu gv;
      }))

  record IsChild (m : ℕ) (l : CellLook h) : Type 0 where
    pub at : ℕ × ℕ
    pub live : IsLive r.table.cells at.0
    pub coded : child_code r cells at.0 at.1 ≡ Some m
    pub looked : child_look at.0 at.1 ≡ Some l

  child_on : (m m' : ℕ) (l l' : CellLook h) → IsChild m l → IsChild m' l' → m ≡ m' → l ≡ l'
  child_on m m' l l' a b e = (child_same.one a.at b.at m m' l l' a.live b.live a.coded b.coded a.looked b.looked).0 e

  child_back : (m m' : ℕ) (l l' : CellLook h) → IsChild m l → IsChild m' l' → l ≡ l' → m ≡ m'
  child_back m m' l l' a b e = (child_same.one a.at b.at m m' l l' a.live b.live a.coded b.coded a.looked b.looked).1 e

  abbrev children : ℕ → Option (List (CellLook h))
  children c = each_where (sides_of r c) (has_child r c) (child_look c)

  cell_code_is : (c : ℕ) → cell_code r corners cells c ≡ both (λ f m. f ++ m) (face_code r corners c) (child_codes r cells c)
  unfolding cell_code
  cell_code_is c = refl

  cell_look_is : (c : ℕ) → cell_look (suc h) r c ≡ both (λ face kids. (face, kids)) (face_look (suc h) r c) (children c)
  unfolding cell_look
  cell_look_is c = refl

  pub cell_same : SameBy (IsLive r.table.cells) (cell_code r corners cells) (cell_look (suc h) r)
  cell_same = record {
    none = λ c live n. cell_look_is c ∙ both_off (λ (_ : ℕ). ℕ) (λ face kids. (face, kids)) (face_look (suc h) r c) (children c) (on c live (both_split (λ (_ : ℕ). ℕ) (λ f m. f ++ m) (face_code r corners c) (child_codes r cells c) (sym (cell_code_is c) ∙ n)));
    back = λ c live n. cell_code_is c ∙ both_off (λ (_ : ℕ). ℕ) (λ f m. f ++ m) (face_code r corners c) (child_codes r cells c) (off c live (both_split (λ (_ : ℕ). ℕ) (λ face kids. (face, kids)) (face_look (suc h) r c) (children c) (sym (cell_look_is c) ∙ n)));
    one = λ x y a b u v p q fa fb gu gv. one x y a b u v p q (both_some (λ (_ : ℕ). ℕ) (λ f m. f ++ m) (face_code r corners x) (child_codes r cells x) a (sym (cell_code_is x) ∙ fa)) (both_some (λ (_ : ℕ). ℕ) (λ f m. f ++ m) (face_code r corners y) (child_codes r cells y) b (sym (cell_code_is y) ∙ fb)) (both_some (λ (_ : ℕ). ℕ) (λ face kids. (face, kids)) (face_look (suc h) r x) (children x) u (sym (cell_look_is x) ∙ gu)) (both_some (λ (_ : ℕ). ℕ) (λ face kids. (face, kids)) (face_look (suc h) r y) (children y) v (sym (cell_look_is y) ∙ gv));
  }
    where
      faces : SameBy (IsLive r.table.cells) (face_code r corners) (face_look (suc h) r)
      faces = face_same r table corners (suc h) by_corner

      on : (c : ℕ) → IsLive r.table.cells c → (face_code r corners c ≡ None) ⊎ (child_codes r cells c ≡ None) → (face_look (suc h) r c ≡ None) ⊎ (children c ≡ None)
      on c live (inl e) = inl (faces.none c live e)
      on c live (inr e) = inr (where_missing IsChild (has_child r c) (child_code r cells c) (child_look c) (sides_of r c) (λ j _ n. child_same.none (c, j) live n) e)

      off : (c : ℕ) → IsLive r.table.cells c → (face_look (suc h) r c ≡ None) ⊎ (children c ≡ None) → (face_code r corners c ≡ None) ⊎ (child_codes r cells c ≡ None)
      off c live (inl e) = inl (faces.back c live e)
      off c live (inr e) = inr (where_missing (λ (_ : CellLook h) (_ : ℕ). Unit {0}) (has_child r c) (child_look c) (child_code r cells c) (sides_of r c) (λ j _ n. child_same.back (c, j) live n) e)

      one : (x y : ℕ) (a b : List ℕ) (u v : CellLook (suc h)) → IsLive r.table.cells x → IsLive r.table.cells y
          → ((f : List ℕ) × (m : List ℕ) × (face_code r corners x ≡ Some f) × (child_codes r cells x ≡ Some m) × (f ++ m ≡ a))
          → ((f : List ℕ) × (m : List ℕ) × (face_code r corners y ≡ Some f) × (child_codes r cells y ≡ Some m) × (f ++ m ≡ b))
          → ((f : FaceLook) × (m : List (CellLook h)) × (face_look (suc h) r x ≡ Some f) × (children x ≡ Some m) × ((f, m) ≡ u))
          → ((f : FaceLook) × (m : List (CellLook h)) × (face_look (suc h) r y ≡ Some f) × (children y ≡ Some m) × ((f, m) ≡ v))
          → (a ≡ b) ↔ (u ≡ v)
      one x y a b u v p q fa fb gu gv =
          let s = face_there r table corners (suc h) by_corner x fa.0 gu.0 p fa.2 gu.2 in
          let t = face_there r table corners (suc h) by_corner y fb.0 gv.0 q fb.2 gv.2 in
          let zx = where_zipped IsChild (has_child r x) (child_code r cells x) (child_look x) (sides_of r x) (λ j m l _ k g. record { at = (x, j); live = p; coded = k; looked = g }) fa.1 gu.1 fa.3 gu.3 in
          let zy = where_zipped IsChild (has_child r y) (child_code r cells y) (child_look y) (sides_of r y) (λ j m l _ k g. record { at = (y, j); live = q; coded = k; looked = g }) fb.1 gv.1 fb.3 gv.3 in (
            λ e.
                let w = face_split r table corners (suc h) by_corner x y fa.0 fb.0 gu.0 gv.0 fa.1 fb.1 s t (fa.4 ∙ (e ∙ sym fb.4)) in
                let kids = zipped_on IsChild child_on fa.1 fb.1 gu.1 gv.1 zx zy w.1 in
                sym gu.4 ∙ (ap₂ (λ f m. (f, m)) w.0 kids ∙ gv.4),
            λ e.
                let pair = gu.4 ∙ (e ∙ sym gv.4) in
                let faces_same : gu.0 ≡ gv.0 = ap (λ (z : FaceLook × List (CellLook h)). z.0) pair in
                let kids_same : gu.1 ≡ gv.1 = ap (λ (z : FaceLook × List (CellLook h)). z.1) pair in
                sym fa.4 ∙ (ap₂ (λ f m. f ++ m) (face_back r table corners (suc h) by_corner x y fa.0 fb.0 gu.0 gv.0 s t faces_same) (zipped_back IsChild child_back fa.1 fb.1 gu.1 gv.1 zx zy kids_same) ∙ fb.4),
          )
