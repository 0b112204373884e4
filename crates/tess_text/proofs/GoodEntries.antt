-- The entries of a valid tessellation are good, each after those before it, and they spell its kinds.
use Rattle.std.proofs.Common.{◌≡◌, ℕ, suc, ◌+◌, ◌<◌, ◌≤◌, ◌^◌, ◌⊎◌, inl, inr, Bool, true, false, List, [], ◌∷◌, ◌++◌, length, get_or, map, refl, sym, ◌∙◌, ap, subst, arith, append_assoc, cond, None, Some}
use Rattle.std.specs.Prelude.{Option, if◌then◌else◌}
use Rattle.std.specs.Option.{option_or}
use Rattle.std.proofs.lemmas.List.{append-nil, length-map}
use Rattle.std.proofs.Math.ListN.{get_or-map}
use Rattle.std.proofs.lemmas.Bool.{cases_Bool}
use Rattle.std.proofs.lemmas.Bool.Decides.{nat_tests}
use Rattle.tile_model.specs.Tessellations.{TileKind, no_kind, kind_at, IsType, cross}
use Rattle.tile_model.specs.Validity.{IsValid}
use Rattle.tile_model.proofs.Types.{repeat_le_sides}
use Rattle.tess_text.specs.declared.entry.Entry.{Entry}
use Rattle.tess_text.specs.declared.entry.Entry.TheVariants.{Join}
use Rattle.tess_text.specs.Grammar.{shapes, IsSide, is_same, partner, partner_in, valence}
use Rattle.tess_text.specs.Text.{is_before, partner_entries}
use Rattle.tess_text.proofs.Entering.{shapes-push, partner-push, valence-push, same_pair, same_self}
use Rattle.tess_text.proofs.Spaced.{AllSmall}
use Rattle.tess_text.proofs.GoodLines.{AllGood}

-- the order of sides
pub not_self : (d : ℕ × ℕ) → is_before d d ≡ false
not_self d = grind (arith, nat_tests)

pub last_before : (q : ℕ × ℕ) (k s : ℕ) → is_before q (k, s) ≡ false → is_before q (k, s + 1) ≡ true → is_same q (k, s) ≡ true
last_before q k s here next = grind (arith, nat_tests)

pub not_before : (q : ℕ × ℕ) (k s : ℕ) → is_before q (k, s + 1) ≡ false → is_before q (k, s) ≡ false
not_before q k s next = grind (arith, nat_tests)

pub not_same : (q : ℕ × ℕ) (k s : ℕ) → is_before q (k, s + 1) ≡ false → is_same q (k, s) ≡ false
not_same q k s next = grind (arith, nat_tests)

pub kind_before : (q : ℕ × ℕ) (k r : ℕ) → (q.0 ≡ k → q.1 < r) → is_before q (k + 1, 0) ≡ true → is_before q (k, r) ≡ true
kind_before q k r inside next = grind (arith, nat_tests)

pub not_kind_before : (q : ℕ × ℕ) (k r : ℕ) → is_before q (k + 1, 0) ≡ false → is_before q (k, r) ≡ false
not_kind_before q k r next = grind (arith, nat_tests)

pub all_before : (q : ℕ × ℕ) (n : ℕ) → q.0 < n → is_before q (n, 0) ≡ true
all_before q n lt = grind (arith, nat_tests)

pub none_before : (q : ℕ × ℕ) → is_before q (0, 0) ≡ false
none_before q = grind (arith, nat_tests)

-- a partner across a plain join
abbrev pub unmarked : ℕ × ℕ → ℕ × ℕ × Bool
unmarked d = (d.0, d.1, false)

abbrev pub shape : TileKind → ℕ × ℕ
shape kind = (kind.sides, kind.repeat)

pub small_append : (es fs : List Entry) → AllSmall es → AllSmall fs → AllSmall (es ++ fs)
small_append [] fs a b = b
small_append (e ∷ es) fs a b = (a.0, small_append es fs a.1 b)

module _ (kinds : List TileKind) (valid : IsValid kinds) where
  -- types among the sides of the entries, and their numbers
  pub side_of : (done : List Entry) (d : ℕ × ℕ) → shapes done ≡ map shape kinds → IsType kinds d → IsSide done d
  side_of done d shaped of_type =
      let repeat : (get_or (shapes done) d.0 (0, 0)).1 ≡ (kind_at kinds d.0).repeat = ap (λ (l : List (ℕ × ℕ)). (get_or l d.0 (0, 0)).1) shaped ∙ ap (λ (p : ℕ × ℕ). p.1) (get_or-map shape kinds d.0 no_kind) in
      (omega (arith, ap (λ (l : List (ℕ × ℕ)). length l) shaped, length-map kinds shape, of_type.0), omega (arith, repeat, of_type.1))

  pub type_of_side : (done : List Entry) (d : ℕ × ℕ) → shapes done ≡ map shape kinds → IsSide done d → IsType kinds d
  type_of_side done d shaped side =
      let repeat : (get_or (shapes done) d.0 (0, 0)).1 ≡ (kind_at kinds d.0).repeat = ap (λ (l : List (ℕ × ℕ)). (get_or l d.0 (0, 0)).1) shaped ∙ ap (λ (p : ℕ × ℕ). p.1) (get_or-map shape kinds d.0 no_kind) in
      (omega (arith, ap (λ (l : List (ℕ × ℕ)). length l) shaped, length-map kinds shape, side.0), omega (arith, repeat, side.1))

  pub repeat_small : (k : ℕ) → k < length kinds → (kind_at kinds k).repeat ≤ 64
  repeat_small k lt =
      let has = valid.sides k lt in
      let small = repeat_le_sides (kind_at kinds k) has (valid.repeat k lt) in
      omega (arith, small, has.1)

  pub kind_byte : (k : ℕ) → k < length kinds → k < 2 ^ 8
  kind_byte k lt = omega (arith, valid.count.1)

  pub residue_byte : (d : ℕ × ℕ) → IsType kinds d → d.1 < 2 ^ 8
  residue_byte d of_type = omega (arith, of_type.1, repeat_small d.0 of_type.0)

  -- The joins of all sides before a place are done: a side is joined where it or its partner stands before the place.
  pub record Joins (done : List Entry) (at : ℕ × ℕ) : Type 0 where
    pub shaped : shapes done ≡ map shape kinds
    pub told : (q : ℕ × ℕ) → IsType kinds q → (is_before q at ≡ true) ⊎ (is_before (cross kinds q) at ≡ true) → partner done q ≡ Some (unmarked (cross kinds q))
    pub free : (q : ℕ × ℕ) → is_before q at ≡ false → is_before (cross kinds q) at ≡ false → partner done q ≡ None
    pub ungiven : (q : ℕ × ℕ) → valence done q ≡ None

  pub record Joined (done es : List Entry) (at : ℕ × ℕ) : Type 0 where
    pub good : AllGood done es
    pub small : AllSmall es
    pub joins : Joins (done ++ es) at

  -- the partner of the partner
  back_from : (d q : ℕ × ℕ) → IsType kinds q → cross kinds q ≡ d → q ≡ cross kinds d
  back_from d q of_type is = sym (valid.involution q of_type) ∙ ap (λ (x : ℕ × ℕ). cross kinds x) is

  -- a side that stands behind its partner is joined already
  passed : (done : List Entry) (k s : ℕ) → Joins done (k, s) → is_before (cross kinds (k, s)) (k, s) ≡ true → Joins done (k, s + 1)
  passed done k s j behind = record {
    shaped = j.shaped;
    told = λ q of_type before. elim before [
      | inl first ↦ elim (cases_Bool (is_before q (k, s))) [
        | inl holds ↦ j.told q of_type (inl holds)
        | inr fails ↦
            let is : q ≡ (k, s) = same_pair q (k, s) (last_before q k s fails first) in
            j.told q of_type (inr (subst (λ (x : ℕ × ℕ). is_before (cross kinds x) (k, s) ≡ true) (sym is) behind))
      ]
      | inr second ↦ elim (cases_Bool (is_before (cross kinds q) (k, s))) [
        | inl holds ↦ j.told q of_type (inr holds)
        | inr fails ↦
            let is : cross kinds q ≡ (k, s) = same_pair (cross kinds q) (k, s) (last_before (cross kinds q) k s fails second) in
            j.told q of_type (inl (subst (λ (x : ℕ × ℕ). is_before x (k, s) ≡ true) (sym (back_from (k, s) q of_type is)) behind))
      ]
    ];
    free = λ q first second. j.free q (not_before q k s first) (not_before (cross kinds q) k s second);
    ungiven = j.ungiven;
  }

  -- the partner of q after a join of d and e
  join_told : (d e q : ℕ × ℕ) (o : Option (ℕ × ℕ × Bool)) (is_d is_e : Bool) → (is_d ≡ true → o ≡ None) → (is_d ≡ true → e ≡ cross kinds q) → (is_e ≡ true → o ≡ None) → (is_e ≡ true → d ≡ cross kinds q) → (is_d ≡ false → is_e ≡ false → o ≡ Some (unmarked (cross kinds q))) → option_or o (cond is_d (Some (unmarked e)) (cond is_e (Some (unmarked d)) None)) ≡ Some (unmarked (cross kinds q))
  join_told d e q o true is_e free_d at_d free_e at_e other = rw (free_d refl) (ap (λ (p : ℕ × ℕ). Some (unmarked p)) (at_d refl))
  join_told d e q o false true free_d at_d free_e at_e other = rw (free_e refl) (ap (λ (p : ℕ × ℕ). Some (unmarked p)) (at_e refl))
  join_told d e q o false false free_d at_d free_e at_e other = rw (other refl refl) refl

  -- a side that stands before its partner
  unjoined_first : (done : List Entry) (k s : ℕ) → Joins done (k, s) → is_before (cross kinds (k, s)) (k, s) ≡ false → partner done (k, s) ≡ None
  unjoined_first done k s j ahead = j.free (k, s) (not_self (k, s)) ahead

  unjoined_second : (done : List Entry) (k s : ℕ) → Joins done (k, s) → IsType kinds (k, s) → is_before (cross kinds (k, s)) (k, s) ≡ false → partner done (cross kinds (k, s)) ≡ None
  unjoined_second done k s j of_type ahead =
      j.free (cross kinds (k, s)) ahead (subst (λ (x : ℕ × ℕ). is_before x (k, s) ≡ false) (sym (valid.involution (k, s) of_type)) (not_self (k, s)))

  abbrev the_join : ℕ → ℕ → Entry
  the_join k s = Join k s (cross kinds (k, s)).0 (cross kinds (k, s)).1 false

  joined_here : (done : List Entry) (k s : ℕ) → Joins done (k, s) → IsType kinds (k, s) → is_before (cross kinds (k, s)) (k, s) ≡ false → Joins (done ++ the_join k s ∷ []) (k, s + 1)
  joined_here done k s j of_type ahead =
      let d : ℕ × ℕ = (k, s) in
      let e = cross kinds (k, s) in
      let back : cross kinds e ≡ (k, s) = valid.involution (k, s) of_type in
      record {
        shaped = shapes-push done (the_join k s) ∙ append-nil (shapes done) ∙ j.shaped;
        told = λ q q_type before.
            partner-push done (the_join k s) q
            ∙ join_told (k, s) e q (partner done q) (is_same q (k, s)) (is_same q e)
            (λ same. ap (λ (x : ℕ × ℕ). partner done x) (same_pair q (k, s) same) ∙ unjoined_first done k s j ahead)
            (λ same. ap (λ (x : ℕ × ℕ). cross kinds x) (sym (same_pair q (k, s) same)))
            (λ same. ap (λ (x : ℕ × ℕ). partner done x) (same_pair q e same) ∙ unjoined_second done k s j of_type ahead)
            (λ same. sym back ∙ ap (λ (x : ℕ × ℕ). cross kinds x) (sym (same_pair q e same)))
            (λ not_d not_e. elim before [
              | inl first ↦ elim (cases_Bool (is_before q (k, s))) [
                | inl holds ↦ j.told q q_type (inl holds)
                | inr fails ↦ absurd (cc (last_before q k s fails first, not_d))
              ]
              | inr second ↦ elim (cases_Bool (is_before (cross kinds q) (k, s))) [
                | inl holds ↦ j.told q q_type (inr holds)
                | inr fails ↦
                    let is : cross kinds q ≡ (k, s) = same_pair (cross kinds q) (k, s) (last_before (cross kinds q) k s fails second) in
                    let at_e : is_same q e ≡ true = subst (λ (x : ℕ × ℕ). is_same x e ≡ true) (sym (back_from (k, s) q q_type is)) (same_self e) in
                    absurd (cc (at_e, not_e))
              ]
            ]);
        free = λ q first second.
            let not_d = not_same q k s first in
            let not_back = not_same (cross kinds q) k s second in
            let not_e : is_same q e ≡ false = elim (cases_Bool (is_same q e)) [
              | inl holds ↦
                  let at_d : is_same (cross kinds q) (k, s) ≡ true = subst (λ (x : ℕ × ℕ). is_same x (k, s) ≡ true) (sym back ∙ ap (λ (x : ℕ × ℕ). cross kinds x) (sym (same_pair q e holds))) (same_self (k, s)) in
                  absurd (cc (at_d, not_back))
              | inr fails ↦ fails
            ] in
            partner-push done (the_join k s) q
            ∙ ap (λ (o : Option (ℕ × ℕ × Bool)). option_or o (partner_in (the_join k s) q)) (j.free q (not_before q k s first) (not_before (cross kinds q) k s second))
            ∙ rw (not_d, not_e) refl;
        ungiven = λ q. valence-push done (the_join k s) q ∙ ap (λ (o : Option ℕ). option_or o None) (j.ungiven q);
      }

  -- the joins of one kind
  partner_step : (done : List Entry) (k s n : ℕ) (rest : List Entry) (b : Bool) → is_before (cross kinds (k, s)) (k, s) ≡ b → Joins done (k, s) → IsType kinds (k, s) → ((more : List Entry) → Joins more (k, s + 1) → Joined more rest (k, n)) → Joined done ((if b then [] else the_join k s ∷ []) ++ rest) (k, n)
  partner_step done k s n rest true is j of_type later = later done (passed done k s j is)
  partner_step done k s n rest false is j of_type later =
      let e_type = valid.partner (k, s) of_type in
      let next = later (done ++ the_join k s ∷ []) (joined_here done k s j of_type is) in
      record {
        good = (
          (
            record { side = side_of done (k, s) j.shaped of_type; free = unjoined_first done k s j is },
            record { side = side_of done (cross kinds (k, s)) j.shaped e_type; free = unjoined_second done k s j of_type is },
          ),
          next.good,
        );
        small = ((kind_byte k of_type.0, residue_byte (k, s) of_type, kind_byte (cross kinds (k, s)).0 e_type.0, residue_byte (cross kinds (k, s)) e_type, refl), next.small);
        joins = subst (λ (l : List Entry). Joins l (k, n)) (append_assoc done (the_join k s ∷ []) rest) next.joins;
      }

  pub partners_good : (k s : ℕ) (ps : List (ℕ × ℕ)) (done : List Entry) → Joins done (k, s) → ((i : ℕ) → i < length ps → IsType kinds (k, s + i) × (get_or ps i (0, 0) ≡ cross kinds (k, s + i))) → Joined done (partner_entries k s ps) (k, s + length ps)
  partners_good k s [] done j at =
      let e : s + 0 ≡ s = omega arith in
      rw e (record { good = tt; small = tt; joins = subst (λ (l : List Entry). Joins l (k, s)) (sym (append-nil done)) j })
  partners_good k s (p ∷ ps) done j at =
      let z : s + 0 ≡ s = omega arith in
      let n : s + 1 + length ps ≡ s + suc (length ps) = omega arith in
      let here = rw z at (at 0 (omega arith)) in
      let at_next : (i : ℕ) → i < length ps → IsType kinds (k, s + 1 + i) × (get_or ps i (0, 0) ≡ cross kinds (k, s + 1 + i)) = λ i lt. let e : s + suc i ≡ s + 1 + i = omega arith in rw e at (at (suc i) (omega arith)) in
      let is : p ≡ cross kinds (k, s) = here.1 in
      let done_with : Joined done ((if is_before (cross kinds (k, s)) (k, s) then [] else the_join k s ∷ []) ++ partner_entries k (s + 1) ps) (k, s + 1 + length ps) = partner_step done k s (s + 1 + length ps) (partner_entries k (s + 1) ps) (is_before (cross kinds (k, s)) (k, s)) refl j here.0 (λ more next. partners_good k (s + 1) ps more next at_next) in
      subst (λ (x : ℕ × ℕ). Joined done ((if is_before x (k, s) then [] else Join k s x.0 x.1 false ∷ []) ++ partner_entries k (s + 1) ps) (k, s + suc (length ps))) (sym is) (rw n at done_with)
