-- What places mean, and that numbers are unique.
use Rattle.std.proofs.Common.{◌≡◌, ℕ, zero, suc, ◌+◌, ◌<◌, ◌≤◌, ◌⊎◌, ◌↔◌, true, false, cond, nat_eq, List, Option, Some, None, refl, sym, ap, ◌∙◌, subst, inl, inr, arith}
use Rattle.std.proofs.Math.Nat.{mod-mod}
use Rattle.std.proofs.lemmas.Bool.{cases_lt}
use Rattle.std.proofs.lemmas.List.{ext_get_or}
use Rattle.std.specs.Option.{option_map, option_and_then}
use Rattle.coincidence.specs.Darts.{pack, slot_at}
use Rattle.coincidence.specs.Cells.{turn_at}
use Rattle.coincidence.specs.Tables.{joined_to, dart_in}
use Rattle.coincidence.specs.Joined.{IsTable}
use Rattle.region_grower.specs.Ways.{IsDart}
use Rattle.region_grower.specs.Regions.{RegionState}
use Rattle.region_grower.specs.Corners.{further, rounds, valence_at}
use Rattle.look_classes.specs.Tree.{left_of, right_of}
use Rattle.look_classes.specs.Places.{is_key, back, placed_within, placed}
use Rattle.look_classes.specs.Numbers.{entry, AreNumbers}
use Rattle.look_classes.specs.Classes.{ClassLists, AreClasses, cell_looks, corner_looks}
use Rattle.look_classes.specs.Laws.{IsPlaceOf}
use Rattle.look_classes.proofs.Cases.{cases, options}
use Rattle.look_classes.proofs.Exact.{map_some, some_one, not_none}
use Rattle.look_classes.proofs.Darts.{right_left, left_right, right_dart, left_dart, joined_dart, joined_back}
use Rattle.look_classes.proofs.Rounds.{within_key, within_next, within_end, within_none}

module _ (r : RegionState) (table : IsTable r.table) where
  -- LX crosses the next side to the left
  further_is : (d : ℕ × ℕ) → joined_to r.table (left_of r d) ≡ further r.table d
  further_is d = ap (λ k. cond (nat_eq (turn_at r.table.cells d.0) 0) None (dart_in (slot_at r.table.slots (pack (d.0, k))))) (mod-mod (d.1 + 1) (turn_at r.table.cells d.0))

  pub back_on : (d e : ℕ × ℕ) → IsDart r.table e → back r e ≡ Some d → further r.table d ≡ Some e
  back_on d e e_dart is =
      let x = map_some (λ (_ : ℕ). ℕ) (right_of r) (joined_to r.table e) d is in
      let x_dart = joined_dart r table e x.0 x.1 in
      let left : left_of r d ≡ x.0 = ap (left_of r) (sym x.2) ∙ left_right r table x.0 x_dart in
      sym (further_is d) ∙ (ap (joined_to r.table) left ∙ joined_back r table e x.0 e_dart x.1)

  pub further_back : (d e : ℕ × ℕ) → IsDart r.table d → further r.table d ≡ Some e → back r e ≡ Some d
  further_back d e d_dart is =
      let over = joined_back r table (left_of r d) e (left_dart r table d d_dart) (further_is d ∙ is) in
      ap (option_map (right_of r)) over ∙ ap Some (right_left r table d d_dart)

  -- the dart come to: there is one before it, joined
  rounds_before : (n : ℕ) (d e : ℕ × ℕ) → rounds (suc n) r.table d ≡ Some e → (f : ℕ × ℕ) × (rounds n r.table d ≡ Some f) × (further r.table f ≡ Some e)
  rounds_before n d e come = go (options (rounds n r.table d))
    where
      go : (rounds n r.table d ≡ None) ⊎ ((f : ℕ × ℕ) × (rounds n r.table d ≡ Some f)) → (f : ℕ × ℕ) × (rounds n r.table d ≡ Some f) × (further r.table f ≡ Some e)
      go (inl none) = absurd (not_none (rounds (suc n) r.table d) e come (ap (option_and_then (further r.table)) none))
      go (inr w) = (w.0, w.1, sym (ap (option_and_then (further r.table)) w.1) ∙ come)

  rounds_dart : (n : ℕ) (d e : ℕ × ℕ) → IsDart r.table d → rounds n r.table d ≡ Some e → IsDart r.table e
  rounds_dart zero d e d_dart come = subst (IsDart r.table) (some_one d e come) d_dart
  rounds_dart (suc n) d e d_dart come = let w = rounds_before n d e come in joined_dart r table (left_of r w.0) e (further_is w.0 ∙ w.2)

  -- where looking back finds a place
  pub record Found (n : ℕ) (d : ℕ × ℕ) (p : ℕ) (b : ℕ × ℕ) : Type 0 where
    pub low : p < n
    pub dart : IsDart r.table b
    pub key : is_key r b ≡ true
    pub leads : rounds p r.table b ≡ Some d
    pub least : (q : ℕ) (c : ℕ × ℕ) → IsDart r.table c → is_key r c ≡ true → rounds q r.table c ≡ Some d → p ≤ q

  -- one tile before what was come to
  come_from : (q : ℕ) (c d f : ℕ × ℕ) → IsDart r.table c → rounds (suc q) r.table c ≡ Some d → back r d ≡ Some f → rounds q r.table c ≡ Some f
  come_from q c d f c_dart come is =
      let w = rounds_before q c d come in
      let f_dart = rounds_dart q c w.0 c_dart w.1 in
      let same : w.0 ≡ f = some_one w.0 f (sym (further_back w.0 d f_dart w.2) ∙ is) in
      w.1 ∙ ap Some same

  go_on : (p : ℕ) (b f d : ℕ × ℕ) → rounds p r.table b ≡ Some f → further r.table f ≡ Some d → rounds (suc p) r.table b ≡ Some d
  go_on p b f d come is = ap (option_and_then (further r.table)) come ∙ is

  back_is : (d e : ℕ × ℕ) → joined_to r.table d ≡ Some e → back r d ≡ Some (right_of r e)
  back_is d e joined = ap (option_map (right_of r)) joined

  key_least : (d : ℕ × ℕ) → is_key r d ≡ false → (p' : ℕ) (f : ℕ × ℕ) → back r d ≡ Some f → ((q : ℕ) (c : ℕ × ℕ) → IsDart r.table c → is_key r c ≡ true → rounds q r.table c ≡ Some f → p' ≤ q) → (q : ℕ) (c : ℕ × ℕ) → IsDart r.table c → is_key r c ≡ true → rounds q r.table c ≡ Some d → suc p' ≤ q
  key_least d off p' f is before zero c c_dart key come =
      let same : c ≡ d = some_one c d come in
      let on : is_key r d ≡ true = subst (λ x. is_key r x ≡ true) same key in
      absurd (cc (on, off))
  key_least d off p' f is before (suc q) c c_dart key come = let le = before q c c_dart key (come_from q c d f c_dart come is) in omega (arith, le)

  found : (n : ℕ) (d : ℕ × ℕ) (w : ℕ × (ℕ × ℕ)) → IsDart r.table d → placed_within n r d ≡ Some w → Found n d w.0 w.1
  found zero d w d_dart is = absurd (not_none (placed_within 0 r d) w is (within_none r d))
  found (suc n) d w d_dart is = go (λ e v e_dart rest. found n e v e_dart rest) (cases (is_key r d)) (options (joined_to r.table d))
    where
      go : ((e : ℕ × ℕ) (v : ℕ × (ℕ × ℕ)) → IsDart r.table e → placed_within n r e ≡ Some v → Found n e v.0 v.1) → (is_key r d ≡ true) ⊎ (is_key r d ≡ false) → (joined_to r.table d ≡ None) ⊎ ((e : ℕ × ℕ) × (joined_to r.table d ≡ Some e)) → Found (suc n) d w.0 w.1
      go before (inl key) _ =
          subst (λ (v : ℕ × (ℕ × ℕ)). Found (suc n) d v.0 v.1) (some_one (0, d) w (sym (within_key r n d key) ∙ is)) (record { low = omega arith; dart = d_dart; key = key; leads = refl; least = λ q c _ _ _. omega arith })
      go before (inr off) (inl none) = absurd (not_none (placed_within (suc n) r d) w is (within_end r (suc n) d off none))
      go before (inr off) (inr e) =
          let f = right_of r e.0 in
          let f_dart = right_dart r table e.0 (joined_dart r table d e.0 e.1) in
          let v = map_some (λ (_ : ℕ). ℕ) (λ (b : ℕ × (ℕ × ℕ)). (suc b.0, b.1)) (placed_within n r (right_of r e.0)) w (sym (within_next r n d e.0 off e.1) ∙ is) in
          let rest = before (right_of r e.0) v.0 f_dart v.1 in
          let on = back_on (right_of r e.0) d d_dart (back_is d e.0 e.1) in
          let less = rest.low in
          subst (λ (k : ℕ × (ℕ × ℕ)). Found (suc n) d k.0 k.1) v.2 (record {
            low = omega (arith, less);
            dart = rest.dart;
            key = rest.key;
            leads = go_on v.0.0 v.0.1 (right_of r e.0) d rest.leads on;
            least = key_least d off v.0.0 (right_of r e.0) (back_is d e.0 e.1) rest.least;
          })

  finds : (n : ℕ) (d b : ℕ × ℕ) (p : ℕ) → IsDart r.table d → Found n d p b → placed_within n r d ≡ Some (p, b)
  finds zero d b p d_dart h = let low = h.low in absurd (omega (arith, low))
  finds (suc n) d b p d_dart h = go (λ f q f_dart rest. finds n f b q f_dart rest) (cases (is_key r d)) p h
    where
      go : ((f : ℕ × ℕ) (q : ℕ) → IsDart r.table f → Found n f q b → placed_within n r f ≡ Some (q, b)) → (is_key r d ≡ true) ⊎ (is_key r d ≡ false) → (p : ℕ) → Found (suc n) d p b → placed_within (suc n) r d ≡ Some (p, b)
      go before (inl key) zero h = within_key r n d key ∙ ap (λ x. Some (0, x)) (sym (some_one b d h.leads))
      go before (inl key) (suc p) h = let le = h.least 0 d d_dart key refl in absurd (omega (arith, le))
      go before (inr off) zero h = let on : is_key r d ≡ true = subst (λ x. is_key r x ≡ true) (some_one b d h.leads) h.key in absurd (cc (on, off))
      go before (inr off) (suc p) h =
          let w = rounds_before p b d h.leads in
          let f_dart = rounds_dart p b w.0 h.dart w.1 in
          let is = further_back w.0 d f_dart w.2 in
          let x = map_some (λ (_ : ℕ). ℕ) (right_of r) (joined_to r.table d) w.0 is in
          let low = h.low in
          let rest = before w.0 p f_dart (record {
            low = omega (arith, low);
            dart = h.dart;
            key = h.key;
            leads = w.1;
            least = λ q c c_dart key come. let le = h.least (suc q) c c_dart key (go_on q c w.0 d come w.2) in omega (arith, le);
          }) in
          within_next r n d x.0 off x.1 ∙ (ap (λ y. option_map (λ (b : ℕ × (ℕ × ℕ)). (suc b.0, b.1)) (placed_within n r y)) x.2 ∙ ap (option_map (λ (b : ℕ × (ℕ × ℕ)). (suc b.0, b.1))) rest)

  pub place_is : (d b : ℕ × ℕ) (p : ℕ) → IsDart r.table d → (placed r d ≡ Some (p, b)) ↔ IsPlaceOf r d p b
  place_is d b p d_dart = (
    λ is. let h = found (valence_at r.table d) d (p, b) d_dart is in record { below = h.low; dart = h.dart; key = h.key; leads = h.leads; least = h.least },
    λ h. finds (valence_at r.table d) d b p d_dart (record { low = h.below; dart = h.dart; key = h.key; leads = h.leads; least = h.least }),
  )

-- numbers in order of first sight are unique
module _ {A : Type 0} (met : List (Option A)) (ns ms : List (Option ℕ)) (n m : ℕ) (a : AreNumbers met ns n) (b : AreNumbers met ms m) where
  there : (i : ℕ) (k : ℕ) → entry ns i ≡ Some k → (x : A) × (entry met i ≡ Some x)
  there i k e = go (options (entry met i))
    where
      go : (entry met i ≡ None) ⊎ ((x : A) × (entry met i ≡ Some x)) → (x : A) × (entry met i ≡ Some x)
      go (inl none) = absurd (not_none (entry ns i) k e ((a.nothing i).1 none))
      go (inr w) = w

  same_entries : (bound i : ℕ) → i < bound → entry ns i ≡ entry ms i
  same_entries zero i lt = absurd (omega (arith, lt))
  same_entries (suc bound) i lt = go (λ j less. same_entries bound j less) (options (entry ns i)) (options (entry ms i))
    where
      less_never : ((j : ℕ) → j < bound → entry ns j ≡ entry ms j) → (k l : ℕ) → entry ns i ≡ Some k → entry ms i ≡ Some l → k < l → ⊥
      less_never before k l ke le less =
          let j = b.first i l k le less in
          let there_too : entry ns j.0 ≡ Some k = before j.0 (omega (arith, lt, j.1)) ∙ j.2 in
          let x = there i k ke in
          let y = there j.0 k there_too in
          let same = (a.one i j.0 k k x.0 y.0 x.1 y.1 ke there_too).0 refl in
          let equal = (b.one i j.0 l k x.0 y.0 x.1 y.1 le j.2).1 same in
          omega (arith, equal, less)

      more_never : ((j : ℕ) → j < bound → entry ns j ≡ entry ms j) → (k l : ℕ) → entry ns i ≡ Some k → entry ms i ≡ Some l → l < k → ⊥
      more_never before k l ke le less =
          let j = a.first i k l ke less in
          let there_too : entry ms j.0 ≡ Some l = sym (before j.0 (omega (arith, lt, j.1))) ∙ j.2 in
          let x = there i k ke in
          let y = there j.0 l j.2 in
          let same = (b.one i j.0 l l x.0 y.0 x.1 y.1 le there_too).0 refl in
          let equal = (a.one i j.0 k l x.0 y.0 x.1 y.1 ke j.2).1 same in
          omega (arith, equal, less)

      go : ((j : ℕ) → j < bound → entry ns j ≡ entry ms j) → (entry ns i ≡ None) ⊎ ((k : ℕ) × (entry ns i ≡ Some k)) → (entry ms i ≡ None) ⊎ ((l : ℕ) × (entry ms i ≡ Some l)) → entry ns i ≡ entry ms i
      go before (inl x) _ = x ∙ sym ((b.nothing i).1 ((a.nothing i).0 x))
      go before _ (inl y) = (a.nothing i).1 ((b.nothing i).0 y) ∙ sym y
      go before (inr x) (inr y) = x.1 ∙ (ap Some (equal (cases_lt x.0 y.0) (cases_lt y.0 x.0)) ∙ sym y.1)
        where
          equal : (x.0 < y.0) ⊎ (y.0 ≤ x.0) → (y.0 < x.0) ⊎ (x.0 ≤ y.0) → x.0 ≡ y.0
          equal (inl lt1) _ = absurd (less_never before x.0 y.0 x.1 y.1 lt1)
          equal _ (inl lt2) = absurd (more_never before x.0 y.0 x.1 y.1 lt2)
          equal (inr le1) (inr le2) = omega (arith, le1, le2)

  pub same_numbers : ns ≡ ms
  same_numbers = ext_get_or None ns ms (a.long ∙ sym b.long) (λ i lt. same_entries (suc i) i (omega arith))

  pub same_count : n ≡ m
  same_count = go (cases_lt n m) (cases_lt m n)
    where
      go : (n < m) ⊎ (m ≤ n) → (m < n) ⊎ (n ≤ m) → n ≡ m
      go (inl lt) _ =
          let w = (b.counted n).0 lt in
          let less = (a.counted n).1 (w.0, ap (λ xs. entry xs w.0) same_numbers ∙ w.1) in
          absurd (omega (arith, less))
      go _ (inl lt) =
          let w = (a.counted m).0 lt in
          let less = (b.counted m).1 (w.0, ap (λ xs. entry xs w.0) (sym same_numbers) ∙ w.1) in
          absurd (omega (arith, less))
      go (inr x) (inr y) = omega (arith, x, y)

pub same_classes : (r : RegionState) (h : ℕ) (one other : ClassLists) → AreClasses h r one → AreClasses h r other → one ≡ other
same_classes r h one other a b =
    let cells = same_numbers (cell_looks h r) one.cells other.cells one.cell_count other.cell_count a.cells b.cells in
    let corners = same_numbers (corner_looks h r) one.corners other.corners one.corner_count other.corner_count a.corners b.corners in
    let cell_count = same_count (cell_looks h r) one.cells other.cells one.cell_count other.cell_count a.cells b.cells in
    let corner_count = same_count (corner_looks h r) one.corners other.corners one.corner_count other.corner_count a.corners b.corners in
    λ i. record { cells = cells i; corners = corners i; cell_count = cell_count i; corner_count = corner_count i }
