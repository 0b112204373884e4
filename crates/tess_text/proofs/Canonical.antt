-- The canonical text of a tessellation is a spelling of it.
use Rattle.std.proofs.Common.{◌≡◌, ℕ, suc, ◌+◌, ◌<◌, ◌≤◌, ◌^◌, inl, inr, Bool, true, false, List, [], ◌∷◌, ◌++◌, length, get_or, map, refl, sym, ◌∙◌, ap, subst, arith, append_assoc, cond, codes, None, Some}
use Rattle.std.specs.Prelude.{Option, IsSome}
use Rattle.std.specs.Option.{option_or}
use Rattle.std.proofs.lemmas.List.{append-nil, length-map}
use Rattle.std.proofs.lemmas.Bool.{cases_Bool}
use Rattle.std.proofs.Math.ListN.{get_or-map as map_at}
use Rattle.handed_kinds.specs.Handed.{HandedKind, handed_at, IsSide as IsSideOf, partner_at}
use Rattle.tess_text.specs.declared.version.Version.TheVariants.{One}
use Rattle.tile_model.specs.Tessellations.{TileKind, no_kind, kind_at, IsType, cross, valence as valence_of}
use Rattle.tile_model.specs.Validity.{IsValid}
use Rattle.tile_model.proofs.Types.{cross_is}
use Rattle.tess_text.specs.declared.entry.Entry.{Entry}
use Rattle.tess_text.specs.declared.entry.Entry.TheVariants.{Kind, Corner}
use Rattle.tess_text.specs.FileLines.{word_lines}
use Rattle.tess_text.specs.Grammar.{entries, shapes, IsSide, is_same, partner, valence, valence_in, head, version_of, IsGoodEnd, IsGoodAt}
use Rattle.tess_text.specs.Spelling.{Spells, plain, IsSpelling}
use Rattle.tess_text.specs.Text.{is_before, kind_entries, partner_entries, join_entries, valence_entries, corner_entries, all_entries, entries_text, tess_text}
use Rattle.tess_text.proofs.Entering.{shapes-push, partner-push, valence-push, same_pair}
use Rattle.tess_text.proofs.Spaced.{AllSmall, entry_words, entry_lines, word_line}
use Rattle.tess_text.proofs.GoodLines.{AllGood, good_append, entries_said, good_lines}
use Rattle.tess_text.proofs.GoodEntries.{unmarked, last_before, not_before, not_same, not_self, kind_before, not_kind_before, all_before, none_before, shape, small_append, side_of, type_of_side, repeat_small, kind_byte, residue_byte, Joins, Joined, partners_good}

-- a kind with plain marks
abbrev marked : TileKind → HandedKind
marked kind =
    record {
      sides = kind.sides;
      repeat = kind.repeat;
      partner = map unmarked kind.partner;
      valence = kind.valence;
    }

-- is that kind without them
plain_partners : (ps : List (ℕ × ℕ)) → map (λ (q : ℕ × ℕ × Bool). (q.0, q.1)) (map unmarked ps) ≡ ps
plain_partners [] = refl
plain_partners (p ∷ ps) = ap (λ (l : List (ℕ × ℕ)). p ∷ l) (plain_partners ps)

plain_marked : (ks : List TileKind) → map plain (map marked ks) ≡ ks
plain_marked [] = refl
plain_marked (kind ∷ ks) = λ i. same i ∷ plain_marked ks i
  where
    same : plain (marked kind) ≡ kind
    same = λ i. record { sides = kind.sides; repeat = kind.repeat; partner = plain_partners kind.partner i; valence = kind.valence }

-- the kind lines
kinds_good : (done : List Entry) (k : ℕ) (rest : List TileKind) → length (shapes done) ≡ k → AllGood done (kind_entries k rest)
kinds_good done k [] is = tt
kinds_good done k (kind ∷ rest) is =
    (sym is, kinds_good (done ++ Kind k kind.sides kind.repeat ∷ []) (k + 1) rest (ap (λ (l : List (ℕ × ℕ)). length l) (shapes-push done (Kind k kind.sides kind.repeat)) ∙ one_more (shapes done) (kind.sides, kind.repeat) ∙ ap (λ (n : ℕ). n + 1) is))
  where
    one_more : (l : List (ℕ × ℕ)) (x : ℕ × ℕ) → length (l ++ x ∷ []) ≡ length l + 1
    one_more [] x = refl
    one_more (y ∷ l) x = omega (arith, one_more l x)

kinds_shapes : (k : ℕ) (rest : List TileKind) → shapes (kind_entries k rest) ≡ map shape rest
kinds_shapes k [] = refl
kinds_shapes k (kind ∷ rest) = ap (λ (l : List (ℕ × ℕ)). (kind.sides, kind.repeat) ∷ l) (kinds_shapes (k + 1) rest)

kinds_unjoined : (k : ℕ) (rest : List TileKind) (q : ℕ × ℕ) → partner (kind_entries k rest) q ≡ None
kinds_unjoined k [] q = refl
kinds_unjoined k (kind ∷ rest) q = kinds_unjoined (k + 1) rest q

kinds_ungiven : (k : ℕ) (rest : List TileKind) (q : ℕ × ℕ) → valence (kind_entries k rest) q ≡ None
kinds_ungiven k [] q = refl
kinds_ungiven k (kind ∷ rest) q = kinds_ungiven (k + 1) rest q

module _ (kinds : List TileKind) (valid : IsValid kinds) where
  kinds_small : (k : ℕ) (rest : List TileKind) → k + length rest ≡ length kinds → ((i : ℕ) → i < length rest → kind_at rest i ≡ kind_at kinds (k + i)) → AllSmall (kind_entries k rest)
  kinds_small k [] len at = tt
  kinds_small k (kind ∷ rest) len at =
      let lt : k < length kinds = omega arith in
      let z : k + 0 ≡ k = omega arith in
      let is : kind ≡ kind_at kinds k = at 0 (omega arith) ∙ ap (λ (n : ℕ). kind_at kinds n) z in
      let sides : kind.sides < 2 ^ 8 = omega (arith, ap (λ (x : TileKind). x.sides) is, (valid.sides k lt).1) in
      let repeat : kind.repeat < 2 ^ 8 = omega (arith, ap (λ (x : TileKind). x.repeat) is, repeat_small kinds valid k lt) in
      ((kind_byte kinds valid k lt, sides, repeat), kinds_small (k + 1) rest (omega arith) (λ i small. at (suc i) (omega arith) ∙ ap (λ (n : ℕ). kind_at kinds n) (omega arith)))

  at_zero : (i : ℕ) → i < length kinds → kind_at kinds i ≡ kind_at kinds (0 + i)
  at_zero i lt = ap (λ (n : ℕ). kind_at kinds n) (omega arith)

  kinds_done : Joins kinds valid (kind_entries 0 kinds) (0, 0)
  kinds_done = record {
    shaped = kinds_shapes 0 kinds;
    told = λ q of_type before. elim before [
      | inl first ↦ absurd (cc (first, none_before q))
      | inr second ↦ absurd (cc (second, none_before (cross kinds q)))
    ];
    free = λ q first second. kinds_unjoined 0 kinds q;
    ungiven = λ q. kinds_ungiven 0 kinds q;
  }

  -- the joins of one kind more
  next_kind : (done : List Entry) (k : ℕ) → Joins kinds valid done (k, (kind_at kinds k).repeat) → Joins kinds valid done (k + 1, 0)
  next_kind done k j = record {
    shaped = j.shaped;
    told = λ q of_type before. elim before [
      | inl first ↦ j.told q of_type (inl (kind_before q k (kind_at kinds k).repeat (λ same. subst (λ (i : ℕ). q.1 < (kind_at kinds i).repeat) same of_type.1) first))
      | inr second ↦ j.told q of_type (inr (kind_before (cross kinds q) k (kind_at kinds k).repeat (λ same. subst (λ (i : ℕ). (cross kinds q).1 < (kind_at kinds i).repeat) same (valid.partner q of_type).1) second))
    ];
    free = λ q first second. j.free q (not_kind_before q k (kind_at kinds k).repeat first) (not_kind_before (cross kinds q) k (kind_at kinds k).repeat second);
    ungiven = j.ungiven;
  }

  joins_good : (k : ℕ) (rest : List TileKind) (done : List Entry) → Joins kinds valid done (k, 0) → k + length rest ≡ length kinds → ((i : ℕ) → i < length rest → kind_at rest i ≡ kind_at kinds (k + i)) → Joined kinds valid done (join_entries k rest) (length kinds, 0)
  joins_good k [] done j len at =
      let e : k ≡ length kinds = omega arith in
      record { good = tt; small = tt; joins = subst (λ (l : List Entry). Joins kinds valid l (length kinds, 0)) (sym (append-nil done)) (subst (λ (n : ℕ). Joins kinds valid done (n, 0)) e j) }
  joins_good k (kind ∷ rest) done j len at =
      let lt : k < length kinds = omega arith in
      let z : k + 0 ≡ k = omega arith in
      let is : kind ≡ kind_at kinds k = at 0 (omega arith) ∙ ap (λ (n : ℕ). kind_at kinds n) z in
      let size : length kind.partner ≡ (kind_at kinds k).repeat = ap (λ (x : TileKind). length x.partner) is ∙ (valid.repeat k lt).partners in
      let first = partners_good kinds valid k 0 kind.partner done j (λ i small.
      let n : 0 + i ≡ i = omega arith in
      let of_type : IsType kinds (k, i) = (lt, omega (arith, size)) in
      rw n ((of_type, ap (λ (x : TileKind). get_or x.partner i (0, 0)) is ∙ sym (cross_is kinds (k, i) of_type)))) in
      let m : 0 + length kind.partner ≡ (kind_at kinds k).repeat = omega (arith, size) in
      let joined : Joins kinds valid (done ++ partner_entries k 0 kind.partner) (k + 1, 0) = next_kind (done ++ partner_entries k 0 kind.partner) k (rw m at first.joins) in
      let second = joins_good (k + 1) rest (done ++ partner_entries k 0 kind.partner) joined (omega arith) (λ i small. at (suc i) (omega arith) ∙ ap (λ (n : ℕ). kind_at kinds n) (omega arith)) in
      record {
        good = good_append done (partner_entries k 0 kind.partner) (join_entries (k + 1) rest) first.good second.good;
        small = small_append (partner_entries k 0 kind.partner) (join_entries (k + 1) rest) first.small second.small;
        joins = subst (λ (l : List Entry). Joins kinds valid l (length kinds, 0)) (append_assoc done (partner_entries k 0 kind.partner) (join_entries (k + 1) rest)) second.joins;
      }

  -- All joins are done, and the corners of all sides before a place.
  record Corners (done : List Entry) (at : ℕ × ℕ) : Type 0 where
    pub shaped : shapes done ≡ map shape kinds
    pub joined : (q : ℕ × ℕ) → IsType kinds q → partner done q ≡ Some (unmarked (cross kinds q))
    pub told : (q : ℕ × ℕ) → IsType kinds q → is_before q at ≡ true → valence done q ≡ Some (valence_of kinds q)
    pub free : (q : ℕ × ℕ) → is_before q at ≡ false → valence done q ≡ None

  record Cornered (done es : List Entry) (at : ℕ × ℕ) : Type 0 where
    pub good : AllGood done es
    pub small : AllSmall es
    pub corners : Corners (done ++ es) at

  corner_told : (v : ℕ) (q : ℕ × ℕ) (o : Option ℕ) (same : Bool) → (same ≡ true → o ≡ None) → (same ≡ true → v ≡ valence_of kinds q) → (same ≡ false → o ≡ Some (valence_of kinds q)) → option_or o (cond same (Some v) None) ≡ Some (valence_of kinds q)
  corner_told v q o true free at other = rw (free refl) (ap (λ (n : ℕ). Some n) (at refl))
  corner_told v q o false free at other = rw (other refl) refl

  cornered_here : (done : List Entry) (k s v : ℕ) → Corners done (k, s) → v ≡ valence_of kinds (k, s) → Corners (done ++ Corner k s v ∷ []) (k, s + 1)
  cornered_here done k s v j is = record {
    shaped = shapes-push done (Corner k s v) ∙ append-nil (shapes done) ∙ j.shaped;
    joined = λ q of_type. partner-push done (Corner k s v) q ∙ ap (λ (o : Option (ℕ × ℕ × Bool)). option_or o None) (j.joined q of_type);
    told = λ q of_type before.
        valence-push done (Corner k s v) q
        ∙ corner_told v q (valence done q) (is_same q (k, s))
        (λ same. ap (λ (x : ℕ × ℕ). valence done x) (same_pair q (k, s) same) ∙ j.free (k, s) (not_self (k, s)))
        (λ same. is ∙ ap (λ (x : ℕ × ℕ). valence_of kinds x) (sym (same_pair q (k, s) same)))
        (λ other. elim (cases_Bool (is_before q (k, s))) [
          | inl holds ↦ j.told q of_type holds
          | inr fails ↦ absurd (cc (last_before q k s fails before, other))
        ]);
    free = λ q behind.
        valence-push done (Corner k s v) q
        ∙ ap (λ (o : Option ℕ). option_or o (valence_in (Corner k s v) q)) (j.free q (not_before q k s behind))
        ∙ rw (not_same q k s behind) refl;
  }

  valences_good : (k s : ℕ) (vs : List ℕ) (done : List Entry) → Corners done (k, s) → ((i : ℕ) → i < length vs → IsType kinds (k, s + i) × (get_or vs i 0 ≡ valence_of kinds (k, s + i))) → Cornered done (valence_entries k s vs) (k, s + length vs)
  valences_good k s [] done j at =
      let e : s + 0 ≡ s = omega arith in
      rw e (record { good = tt; small = tt; corners = subst (λ (l : List Entry). Corners l (k, s)) (sym (append-nil done)) j })
  valences_good k s (v ∷ vs) done j at =
      let z : s + 0 ≡ s = omega arith in
      let n : s + 1 + length vs ≡ s + suc (length vs) = omega arith in
      let here = rw z at (at 0 (omega arith)) in
      let at_next : (i : ℕ) → i < length vs → IsType kinds (k, s + 1 + i) × (get_or vs i 0 ≡ valence_of kinds (k, s + 1 + i)) = λ i lt. let e : s + suc i ≡ s + 1 + i = omega arith in rw e at (at (suc i) (omega arith)) in
      let next = valences_good k (s + 1) vs (done ++ Corner k s v ∷ []) (cornered_here done k s v j here.1) at_next in
      let byte : v < 2 ^ 8 = omega (arith, here.1, (valid.valence (k, s) here.0).1) in
      record {
        good = (record { side = side_of kinds valid done (k, s) j.shaped here.0; free = j.free (k, s) (not_self (k, s)) }, next.good);
        small = ((kind_byte kinds valid k here.0.0, residue_byte kinds valid (k, s) here.0, byte), next.small);
        corners = subst (λ (l : List Entry). Corners l (k, s + suc (length vs))) (append_assoc done (Corner k s v ∷ []) (valence_entries k (s + 1) vs)) (rw n at next.corners);
      }

  next_corners : (done : List Entry) (k : ℕ) → Corners done (k, (kind_at kinds k).repeat) → Corners done (k + 1, 0)
  next_corners done k j = record {
    shaped = j.shaped;
    joined = j.joined;
    told = λ q of_type before. j.told q of_type (kind_before q k (kind_at kinds k).repeat (λ same. subst (λ (i : ℕ). q.1 < (kind_at kinds i).repeat) same of_type.1) before);
    free = λ q behind. j.free q (not_kind_before q k (kind_at kinds k).repeat behind);
  }

  corners_good : (k : ℕ) (rest : List TileKind) (done : List Entry) → Corners done (k, 0) → k + length rest ≡ length kinds → ((i : ℕ) → i < length rest → kind_at rest i ≡ kind_at kinds (k + i)) → Cornered done (corner_entries k rest) (length kinds, 0)
  corners_good k [] done j len at =
      let e : k ≡ length kinds = omega arith in
      record { good = tt; small = tt; corners = subst (λ (l : List Entry). Corners l (length kinds, 0)) (sym (append-nil done)) (subst (λ (n : ℕ). Corners done (n, 0)) e j) }
  corners_good k (kind ∷ rest) done j len at =
      let lt : k < length kinds = omega arith in
      let z : k + 0 ≡ k = omega arith in
      let is : kind ≡ kind_at kinds k = at 0 (omega arith) ∙ ap (λ (n : ℕ). kind_at kinds n) z in
      let size : length kind.valence ≡ (kind_at kinds k).repeat = ap (λ (x : TileKind). length x.valence) is ∙ (valid.repeat k lt).valences in
      let first = valences_good k 0 kind.valence done j (λ i small.
      let n : 0 + i ≡ i = omega arith in
      let of_type : IsType kinds (k, i) = (lt, omega (arith, size)) in
      rw n ((of_type, ap (λ (x : TileKind). get_or x.valence i 0) is))) in
      let m : 0 + length kind.valence ≡ (kind_at kinds k).repeat = omega (arith, size) in
      let cornered : Corners (done ++ valence_entries k 0 kind.valence) (k + 1, 0) = next_corners (done ++ valence_entries k 0 kind.valence) k (rw m at first.corners) in
      let second = corners_good (k + 1) rest (done ++ valence_entries k 0 kind.valence) cornered (omega arith) (λ i small. at (suc i) (omega arith) ∙ ap (λ (n : ℕ). kind_at kinds n) (omega arith)) in
      record {
        good = good_append done (valence_entries k 0 kind.valence) (corner_entries (k + 1) rest) first.good second.good;
        small = small_append (valence_entries k 0 kind.valence) (corner_entries (k + 1) rest) first.small second.small;
        corners = subst (λ (l : List Entry). Corners l (length kinds, 0)) (append_assoc done (valence_entries k 0 kind.valence) (corner_entries (k + 1) rest)) second.corners;
      }

  -- all entries
  abbrev told_kinds : List Entry
  told_kinds = kind_entries 0 kinds

  first_part : Joined kinds valid told_kinds (join_entries 0 kinds) (length kinds, 0)
  first_part = joins_good 0 kinds told_kinds kinds_done (omega arith) at_zero

  corners_start : Corners (told_kinds ++ join_entries 0 kinds) (0, 0)
  corners_start = record {
    shaped = first_part.joins.shaped;
    joined = λ q of_type. first_part.joins.told q of_type (inl (all_before q (length kinds) of_type.0));
    told = λ q of_type before. absurd (cc (before, none_before q));
    free = λ q behind. first_part.joins.ungiven q;
  }

  second_part : Cornered (told_kinds ++ join_entries 0 kinds) (corner_entries 0 kinds) (length kinds, 0)
  second_part = corners_good 0 kinds (told_kinds ++ join_entries 0 kinds) corners_start (omega arith) at_zero

  all_good : AllGood [] (all_entries kinds)
  all_good = good_append [] told_kinds (join_entries 0 kinds ++ corner_entries 0 kinds) (kinds_good [] 0 kinds refl) (good_append told_kinds (join_entries 0 kinds) (corner_entries 0 kinds) first_part.good second_part.good)

  all_small : AllSmall (all_entries kinds)
  all_small = small_append told_kinds (join_entries 0 kinds ++ corner_entries 0 kinds) (kinds_small 0 kinds (omega arith) at_zero) (small_append (join_entries 0 kinds) (corner_entries 0 kinds) first_part.small second_part.small)

  finished : Corners (all_entries kinds) (length kinds, 0)
  finished = subst (λ (l : List Entry). Corners l (length kinds, 0)) (append_assoc told_kinds (join_entries 0 kinds) (corner_entries 0 kinds)) second_part.corners

  given : (q : ℕ × ℕ) → IsType kinds q → valence (all_entries kinds) q ≡ Some (valence_of kinds q)
  given q of_type = finished.told q of_type (all_before q (length kinds) of_type.0)

  -- the kinds with plain marks
  abbrev said : List HandedKind
  said = map marked kinds

  said_at : (k : ℕ) → handed_at said k ≡ marked (kind_at kinds k)
  said_at k = map_at marked kinds k no_kind

  said_type : (d : ℕ × ℕ) → IsSideOf said d → IsType kinds d
  said_type d side = (omega (arith, length-map kinds marked, side.0), omega (arith, ap (λ (x : HandedKind). x.repeat) (said_at d.0), side.1))

  said_kind : (k : ℕ) → k < length said → k < length kinds
  said_kind k lt = omega (arith, length-map kinds marked)

  said_partner : (d : ℕ × ℕ) → IsType kinds d → partner_at said d ≡ unmarked (cross kinds d)
  said_partner d of_type =
      ap (λ (x : HandedKind). get_or x.partner d.1 (0, 0, false)) (said_at d.0)
      ∙ map_at unmarked (kind_at kinds d.0).partner d.1 (0, 0)
      ∙ ap (λ (q : ℕ × ℕ). unmarked q) (sym (cross_is kinds d of_type))

  said_shapes : (ks : List TileKind) → map (λ (kind : HandedKind). (kind.sides, kind.repeat)) (map marked ks) ≡ map shape ks
  said_shapes [] = refl
  said_shapes (kind ∷ ks) = ap (λ (l : List (ℕ × ℕ)). (kind.sides, kind.repeat) ∷ l) (said_shapes ks)

  spelt : Spells (all_entries kinds) said
  spelt = record {
    shapes = said_shapes kinds ∙ sym finished.shaped;
    partners = λ k lt.
        ap (λ (x : HandedKind). length x.partner) (said_at k) ∙ length-map (kind_at kinds k).partner unmarked
        ∙ (valid.repeat k (said_kind k lt)).partners ∙ ap (λ (x : HandedKind). x.repeat) (sym (said_at k));
    valences = λ k lt.
        ap (λ (x : HandedKind). length x.valence) (said_at k)
        ∙ (valid.repeat k (said_kind k lt)).valences ∙ ap (λ (x : HandedKind). x.repeat) (sym (said_at k));
    joined = λ q side. finished.joined q (said_type q side) ∙ ap (λ (p : ℕ × ℕ × Bool). Some p) (sym (said_partner q (said_type q side)));
    given = λ q side. given q (said_type q side) ∙ ap (λ (v : ℕ). Some v) (ap (λ (x : HandedKind). get_or x.valence q.1 0) (sym (said_at q.0)));
  }

  abbrev the_lines : List (List (List ℕ))
  the_lines = head One ∷ map entry_words (all_entries kinds)

  says : entries the_lines ≡ all_entries kinds
  says = entries_said (all_entries kinds) all_small

  end_of_entries : (es : List Entry) → es ≡ all_entries kinds → (1 ≤ length (shapes es)) × ((d : ℕ × ℕ) → IsSide es d → IsSome (partner es d)) × ((d : ℕ × ℕ) → IsSide es d → IsSome (valence es d))
  end_of_entries es is =
      subst (λ (l : List Entry). (1 ≤ length (shapes l)) × ((d : ℕ × ℕ) → IsSide l d → IsSome (partner l d)) × ((d : ℕ × ℕ) → IsSide l d → IsSome (valence l d))) (sym is) (
        omega (arith, ap (λ (l : List (ℕ × ℕ)). length l) finished.shaped, length-map kinds shape, valid.count.0),
        λ d side. subst (λ (o : Option (ℕ × ℕ × Bool)). IsSome o) (sym (finished.joined d (type_of_side kinds valid (all_entries kinds) d finished.shaped side))) refl,
        λ d side. subst (λ (o : Option ℕ). IsSome o) (sym (given d (type_of_side kinds valid (all_entries kinds) d finished.shaped side))) refl,
      )

  good_end : IsGoodEnd the_lines
  good_end =
      let parts = end_of_entries (entries the_lines) says in
      record { begun = refl; kinds = parts.0; joins = parts.1; corners = parts.2 }

  lines_are : word_lines (tess_text kinds) ≡ the_lines
  lines_are =
      word_line (codes "tess") (codes "1" ∷ []) (entries_text (all_entries kinds)) (omega arith, (omega arith, (omega arith, (omega arith, (omega arith, tt))))) ((omega arith, (omega arith, tt)), tt)
      ∙ ap (λ (l : List (List (List ℕ))). head One ∷ l) (entry_lines (all_entries kinds) all_small)

  pub canonical_spelling : IsSpelling (tess_text kinds) kinds
  canonical_spelling = record {
    version = One;
    said = said;
    says = record {
      grammar = subst (λ (ls : List (List (List ℕ))). (i : ℕ) → i ≤ length ls → IsGoodAt ls i) (sym lines_are) (good_lines (all_entries kinds) all_small all_good good_end);
      head = sym (ap (λ (ls : List (List (List ℕ))). version_of ls) lines_are);
      spells = subst (λ (ls : List (List (List ℕ))). Spells (entries ls) said) (sym lines_are) (subst (λ (es : List Entry). Spells es said) (sym says) spelt);
    };
    value = sym (plain_marked kinds);
  }
