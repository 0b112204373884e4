-- Numbers of codes are the classes of looks.
use Rattle.std.proofs.Common.{◌≡◌, ℕ, zero, suc, ◌+◌, ◌<◌, ◌≤◌, ◌⊎◌, List, map, length, get_or, true, false, Option, Some, None, refl, sym, ap, ◌∙◌, subst, inl, inr, arith}
use Rattle.std.proofs.lemmas.Bool.{cases_lt}
use Rattle.coincidence.specs.Cells.{IsLive, turn_at}
use Rattle.coincidence.specs.Joined.{IsTable}
use Rattle.region_grower.specs.Ways.{IsDart}
use Rattle.region_grower.specs.Regions.{RegionState}
use Rattle.look_classes.specs.Tree.{dart_of, right_of}
use Rattle.coincidence.specs.Tables.{joined_to}
use Rattle.region_grower.specs.Corners.{valence_at}
use Rattle.look_classes.specs.Places.{placed, placed_within, outer_side, is_key}
use Rattle.look_classes.proofs.Cases.{cases, options}
use Rattle.look_classes.proofs.Rounds.{within_key, within_next, within_end, within_none}
use Rattle.look_classes.specs.Looks.{first_look, corner_look, face_look, cell_look}
use Rattle.look_classes.specs.Numbers.{entry, AreNumbers}
use Rattle.look_classes.specs.Classes.{ClassLists, AreClasses, below, sides_below, made}
use Rattle.look_classes.specs.Codes.{first_code, first_codes, next_code, next_codes, number_at, start_of, face_code, cell_code, IsLooks}
use Rattle.look_classes.proofs.Exact.{SameBy, same_wider, same_over, numbers_on, same_right, map_some, some_one, not_none}
use Rattle.look_classes.proofs.Darts.{dart_there, own_dart, dart_made, side_low, right_dart, joined_dart}
use Rattle.look_classes.proofs.Dead.{dead_first, dead_next, dead_face, dead_cell, dead_look, dead_cell_look}
use Rattle.look_classes.proofs.Listed.{entry_map, start_at, length_below, get_below}
use Rattle.look_classes.proofs.Classed.{first_same, zero_same, next_same}
use Rattle.look_classes.proofs.Celled.{face_same, cell_same}

module _ (r : RegionState) (table : IsTable r.table) where
  live_or : (c : ℕ) → IsLive r.table.cells c ⊎ (IsLive r.table.cells c → ⊥)
  live_or c = go (cases_lt 0 (turn_at r.table.cells c))
    where
      go : (0 < turn_at r.table.cells c) ⊎ (turn_at r.table.cells c ≤ 0) → IsLive r.table.cells c ⊎ (IsLive r.table.cells c → ⊥)
      go (inl live) = inl live
      go (inr le) = inr (λ live. absurd (omega (arith, live, le)))

  -- numbers of all corners are those of darts
  module _ {A : Type 0} (look : ℕ × ℕ → Option A) (ns : List (Option ℕ)) (count : ℕ) (are : AreNumbers (map (λ s. look (dart_of r s.0 s.1)) (sides_below (made r) r)) ns count) where
    at : (d : ℕ × ℕ) → IsDart r.table d → entry (map (λ s. look (dart_of r s.0 s.1)) (sides_below (made r) r)) (start_of r d.0 + d.1) ≡ look d
    at d is_dart =
        let w = start_at r (made r) d.0 d.1 (0, 0) (dart_made r table d is_dart) (side_low r table d is_dart) in
        entry_map (λ s. look (dart_of r s.0 s.1)) (sides_below (made r) r) (start_of r d.0 + d.1) (0, 0) w.0 ∙ (ap (λ s. look (dart_of r s.0 s.1)) w.1 ∙ ap look (own_dart r table d is_dart))

    pub by_dart : SameBy (IsDart r.table) (number_at r ns) look
    by_dart = record {
      none = λ d p n. sym (at d p) ∙ (are.nothing (start_of r d.0 + d.1)).0 n;
      back = λ d p n. (are.nothing (start_of r d.0 + d.1)).1 (at d p ∙ n);
      one = λ d e m n x y p q dm en dx ey. are.one (start_of r d.0 + d.1) (start_of r e.0 + e.1) m n x y (at d p ∙ dx) (at e q ∙ ey) dm en;
    }

  module _ {A : Type 0} (look : ℕ → Option A) (ns : List (Option ℕ)) (count : ℕ) (are : AreNumbers (map look (below (made r))) ns count) where
    at_cell : (c : ℕ) → c < made r → entry (map look (below (made r))) c ≡ look c
    at_cell c lt = entry_map look (below (made r)) c 0 (omega (arith, lt, length_below (made r))) ∙ ap look (get_below (made r) c 0 lt)

    pub by_number : SameBy (λ c. c < made r) (entry ns) look
    by_number = record {
      none = λ c p n. sym (at_cell c p) ∙ (are.nothing c).0 n;
      back = λ c p n. (are.nothing c).1 (at_cell c p ∙ n);
      one = λ c e m n x y p q dm en dx ey. are.one c e m n x y (at_cell c p ∙ dx) (at_cell e q ∙ ey) dm en;
    }

  -- codes of darts, numbered, number looks
  module _ {A B : Type 0} (code : ℕ × ℕ → Option A) (look : ℕ × ℕ → Option B) (same : SameBy (IsDart r.table) code look) (dead_code : (d : ℕ × ℕ) → (IsLive r.table.cells d.0 → ⊥) → code d ≡ None) (dead : (d : ℕ × ℕ) → (IsLive r.table.cells d.0 → ⊥) → look d ≡ None) (ns : List (Option ℕ)) (count : ℕ) (are : AreNumbers (map (λ s. code (dart_of r s.0 s.1)) (sides_below (made r) r)) ns count) where
    live_same : SameBy (λ (s : ℕ × ℕ). IsLive r.table.cells s.0) (λ s. code (dart_of r s.0 s.1)) (λ s. look (dart_of r s.0 s.1))
    live_same = record {
      none = λ s live n. same.none (dart_of r s.0 s.1) (dart_there r table s.0 s.1 live) n;
      back = λ s live n. same.back (dart_of r s.0 s.1) (dart_there r table s.0 s.1 live) n;
      one = λ s t a b u v p q. same.one (dart_of r s.0 s.1) (dart_of r t.0 t.1) a b u v (dart_there r table s.0 s.1 p) (dart_there r table t.0 t.1 q);
    }

    split : (s : ℕ × ℕ) → Unit {0} → IsLive r.table.cells s.0 ⊎ ((code (dart_of r s.0 s.1) ≡ None) × (look (dart_of r s.0 s.1) ≡ None))
    split s _ = go (live_or s.0)
      where
        go : IsLive r.table.cells s.0 ⊎ (IsLive r.table.cells s.0 → ⊥) → IsLive r.table.cells s.0 ⊎ ((code (dart_of r s.0 s.1) ≡ None) × (look (dart_of r s.0 s.1) ≡ None))
        go (inl live) = inl live
        go (inr no_cell) = inr (dead_code (dart_of r s.0 s.1) no_cell, dead (dart_of r s.0 s.1) no_cell)

    pub corners_on : AreNumbers (map (λ s. look (dart_of r s.0 s.1)) (sides_below (made r) r)) ns count
    corners_on = numbers_on (λ (_ : ℕ × ℕ). Unit {0}) (λ s. code (dart_of r s.0 s.1)) (λ s. look (dart_of r s.0 s.1)) (same_wider (λ (s : ℕ × ℕ). IsLive r.table.cells s.0) (λ _. Unit {0}) (λ s. code (dart_of r s.0 s.1)) (λ s. look (dart_of r s.0 s.1)) split live_same) (sides_below (made r) r) (0, 0) (λ _ _. tt) ns count are

  module _ {A B : Type 0} (code : ℕ → Option A) (look : ℕ → Option B) (same : SameBy (IsLive r.table.cells) code look) (dead_code : (c : ℕ) → (IsLive r.table.cells c → ⊥) → c < made r → code c ≡ None) (dead : (c : ℕ) → (IsLive r.table.cells c → ⊥) → c < made r → look c ≡ None) (ns : List (Option ℕ)) (count : ℕ) (are : AreNumbers (map code (below (made r))) ns count) where
    split_cell : (c : ℕ) → c < made r → IsLive r.table.cells c ⊎ ((code c ≡ None) × (look c ≡ None))
    split_cell c lt = go (live_or c)
      where
        go : IsLive r.table.cells c ⊎ (IsLive r.table.cells c → ⊥) → IsLive r.table.cells c ⊎ ((code c ≡ None) × (look c ≡ None))
        go (inl live) = inl live
        go (inr no_cell) = inr (dead_code c no_cell lt, dead c no_cell lt)

    pub cells_on : AreNumbers (map look (below (made r))) ns count
    cells_on = numbers_on (λ c. c < made r) code look (same_wider (IsLive r.table.cells) (λ c. c < made r) code look split_cell same) (below (made r)) 0 (λ i lt. low i lt) ns count are
      where
        low : (i : ℕ) → i < length (below (made r)) → get_or (below (made r)) i 0 < made r
        low i lt = let less : i < made r = omega (arith, lt, length_below (made r)) in subst (λ k. k < made r) (sym (get_below (made r) i 0 less)) less

  within_dart : (n : ℕ) (d : ℕ × ℕ) (w : ℕ × (ℕ × ℕ)) → IsDart r.table d → placed_within n r d ≡ Some w → IsDart r.table w.1
  within_dart zero d w is_dart is = absurd (not_none (placed_within 0 r d) w is (within_none r d))
  within_dart (suc n) d w is_dart is = go (λ e v e_dart found. within_dart n e v e_dart found) (cases (is_key r d)) (options (joined_to r.table d))
    where
      go : ((e : ℕ × ℕ) (v : ℕ × (ℕ × ℕ)) → IsDart r.table e → placed_within n r e ≡ Some v → IsDart r.table v.1) → (is_key r d ≡ true) ⊎ (is_key r d ≡ false) → (joined_to r.table d ≡ None) ⊎ ((e : ℕ × ℕ) × (joined_to r.table d ≡ Some e)) → IsDart r.table w.1
      go before (inl key) _ = subst (λ v. IsDart r.table v.1) (some_one (0, d) w (sym (within_key r n d key) ∙ is)) is_dart
      go before (inr off) (inl none) = absurd (not_none (placed_within (suc n) r d) w is (within_end r (suc n) d off none))
      go before (inr off) (inr e) =
          let v = map_some (λ (_ : ℕ). ℕ) (λ (b : ℕ × (ℕ × ℕ)). (suc b.0, b.1)) (placed_within n r (right_of r e.0)) w (sym (within_next r n d e.0 off e.1) ∙ is) in
          subst (λ k. IsDart r.table k.1) v.2 (before (right_of r e.0) v.0 (right_dart r table e.0 (joined_dart r table d e.0 e.1)) v.1)

  pub placed_dart : (d : ℕ × ℕ) (w : ℕ × (ℕ × ℕ)) → IsDart r.table d → placed r d ≡ Some w → IsDart r.table w.1
  placed_dart d w is_dart is = within_dart (valence_at r.table d) d w is_dart is

  outer_dart : (d e : ℕ × ℕ) → IsDart r.table d → outer_side r d ≡ Some e → IsDart r.table e
  outer_dart d e is_dart is =
      let w = map_some (λ (_ : ℕ). ℕ) (λ (b : ℕ × (ℕ × ℕ)). right_of r b.1) (placed r d) e is in
      subst (IsDart r.table) w.2 (right_dart r table w.0.1 (placed_dart d w.0 is_dart w.1))

  zero_is : (c : ℕ) → cell_look 0 r c ≡ face_look 0 r c
  unfolding cell_look
  zero_is c = refl

  -- to horizon 0
  pub first_classes : (firsts cells : List (Option ℕ)) (n m : ℕ) → AreNumbers (first_codes r (sides_below (made r) r)) firsts n → AreNumbers (map (face_code r firsts) (below (made r))) cells m → AreClasses 0 r (record { cells = cells; corners = firsts; cell_count = m; corner_count = n })
  first_classes firsts cells n m are faces =
      let corners = corners_on (first_code r) (corner_look 0 r) (zero_same r table (IsDart r.table) (first_code r) (first_same r table (IsDart r.table))) (dead_first r table) (dead_look r table 0) firsts n are in
      record {
        cells = cells_on (face_code r firsts) (cell_look 0 r) (zero_face (face_same r table firsts 0 (by_dart (corner_look 0 r) firsts n corners))) (dead_face r table firsts) (dead_cell_look r table 0) cells m faces;
        corners = corners;
      }
    where
      zero_face : {A : Type 0} {f : ℕ → Option A} → SameBy (IsLive r.table.cells) f (face_look 0 r) → SameBy (IsLive r.table.cells) f (cell_look 0 r)
      zero_face {A} {f} h = same_right (IsLive r.table.cells) f (cell_look 0 r) (face_look 0 r) (λ c _. zero_is c) h

  -- to a horizon one farther
  pub next_classes : (h : ℕ) (firsts : List (Option ℕ)) (before : ClassLists) (corners cells : List (Option ℕ)) (n m : ℕ) → IsLooks r h firsts before → AreNumbers (next_codes r firsts before.corners (sides_below (made r) r)) corners n → AreNumbers (map (cell_code r corners before.cells) (below (made r))) cells m → AreClasses (suc h) r (record { cells = cells; corners = corners; cell_count = m; corner_count = n })
  next_classes h firsts before corners cells n m looks are faces =
      let one = same_over (IsDart r.table) (number_at r firsts) (first_code r) (first_look r) (by_dart (first_code r) firsts looks.count looks.firsts) (first_same r table (IsDart r.table)) in
      let two = by_dart (corner_look h r) before.corners before.corner_count looks.classes.corners in
      let new_corners = corners_on (next_code r firsts before.corners) (corner_look (suc h) r) (next_same r table h firsts before.corners one two outer_dart) (dead_next r table firsts before.corners) (dead_look r table (suc h)) corners n are in
      let by_cell = by_number (cell_look h r) before.cells before.cell_count looks.classes.cells in
      record {
        cells = cells_on (cell_code r corners before.cells) (cell_look (suc h) r) (cell_same r table corners before.cells h (by_dart (corner_look (suc h) r) corners n new_corners) by_cell) (dead_cell r table corners before.cells) (dead_cell_look r table (suc h)) cells m faces;
        corners = new_corners;
      }
