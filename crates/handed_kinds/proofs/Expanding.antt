-- Building the expansion, kind by kind and residue by residue.
use Rattle.std.proofs.Common.{◌≡◌, ℕ, suc, ◌+◌, ◌*◌, ◌/◌, ◌%◌, ◌==◌, ◌<◌, ◌≤◌, Bool, List, [], ◌∷◌, ◌++◌, length, get_or, drop, sym, ap, ◌∙◌, arith, append_assoc}
use Rattle.std.proofs.Math.Seq.{drop-cons}
use Rattle.std.proofs.Math.ListN.{drop_of_length-le}
use Rattle.std.proofs.lemmas.List.{append-nil}
use Rattle.std.proofs.lemmas.List.FromFn.{get_or-map-range_with_len}
use Rattle.tile_model.specs.Tessellations.{TileKind, no_kind}
use Rattle.handed_kinds.specs.Handed.{HandedKind, handed_at, cross, valence}
use Rattle.handed_kinds.specs.HandedValidity.{HasRepeat}
use Rattle.handed_kinds.specs.Expansion.{flat, as_seen, seen, expanded}
use Rattle.handed_kinds.proofs.Numbers.{expanded_length, seen_at}
use Rattle.handed_kinds.proofs.Valid.{list_length}

-- the list so far, followed by what is left, is the whole list: so it is with one more
pub one_more : {X : Type 0} (so_far all : List X) (i : ℕ) (x d : X) → i < length all → so_far ++ drop i all ≡ all → x ≡ get_or all i d → (so_far ++ x ∷ []) ++ drop (i + 1) all ≡ all
one_more {X} so_far all i x d lt is item =
    append_assoc so_far (x ∷ []) (drop (i + 1) all)
    ∙ ap (λ (l : List X). so_far ++ l) (ap (λ (y : X). y ∷ drop (i + 1) all) item ∙ next) ∙ is
  where
    next : get_or all i d ∷ drop (i + 1) all ≡ drop i all
    next = let e : i + 1 ≡ suc i = omega arith in rw e (sym (drop-cons all i d lt))

-- and with none left it is that list
pub whole : {X : Type 0} (so_far all : List X) (i : ℕ) → so_far ++ drop i all ≡ all → length all ≤ i → so_far ≡ all
whole {X} so_far all i is le = sym (append-nil so_far) ∙ ap (λ (l : List X). so_far ++ l) (sym (drop_of_length-le all le)) ∙ is

-- the same of the lists of a kind as it is seen with a hand
module _ (hs : List HandedKind) (k : ℕ) (hand : Bool) (repeat : HasRepeat (handed_at hs k)) where
  pub one_partner : (so_far : List (ℕ × ℕ)) (j : ℕ) (x : ℕ × ℕ) → j < (handed_at hs k).repeat → x ≡ flat hs (cross hs (as_seen hs k hand j)) → so_far ++ drop j (seen hs k hand).partner ≡ (seen hs k hand).partner → (so_far ++ x ∷ []) ++ drop (j + 1) (seen hs k hand).partner ≡ (seen hs k hand).partner
  one_partner so_far j x lt item is =
      let inside : j < length (handed_at hs k).partner = omega (arith, lt, repeat.partners) in
      one_more so_far (seen hs k hand).partner j x (0, 0) (omega (arith, inside, list_length (λ i. flat hs (cross hs (as_seen hs k hand i))) (length (handed_at hs k).partner))) is
      (item ∙ sym (get_or-map-range_with_len (λ i. flat hs (cross hs (as_seen hs k hand i))) 0 (length (handed_at hs k).partner) j j (0, 0) inside (omega arith)))

  pub one_valence : (so_far : List ℕ) (j x : ℕ) → j < (handed_at hs k).repeat → x ≡ valence hs (as_seen hs k hand j) → so_far ++ drop j (seen hs k hand).valence ≡ (seen hs k hand).valence → (so_far ++ x ∷ []) ++ drop (j + 1) (seen hs k hand).valence ≡ (seen hs k hand).valence
  one_valence so_far j x lt item is =
      let inside : j < length (handed_at hs k).valence = omega (arith, lt, repeat.valences) in
      one_more so_far (seen hs k hand).valence j x 0 (omega (arith, inside, list_length (λ i. valence hs (as_seen hs k hand i)) (length (handed_at hs k).valence))) is
      (item ∙ sym (get_or-map-range_with_len (λ i. valence hs (as_seen hs k hand i)) 0 (length (handed_at hs k).valence) j j 0 inside (omega arith)))

  pub all_partners : (so_far : List (ℕ × ℕ)) (j : ℕ) → (handed_at hs k).repeat ≤ j → so_far ++ drop j (seen hs k hand).partner ≡ (seen hs k hand).partner → so_far ≡ (seen hs k hand).partner
  all_partners so_far j le is = whole so_far (seen hs k hand).partner j is (omega (arith, le, repeat.partners, list_length (λ i. flat hs (cross hs (as_seen hs k hand i))) (length (handed_at hs k).partner)))

  pub all_valences : (so_far : List ℕ) (j : ℕ) → (handed_at hs k).repeat ≤ j → so_far ++ drop j (seen hs k hand).valence ≡ (seen hs k hand).valence → so_far ≡ (seen hs k hand).valence
  all_valences so_far j le is = whole so_far (seen hs k hand).valence j is (omega (arith, le, repeat.valences, list_length (λ i. valence hs (as_seen hs k hand i)) (length (handed_at hs k).valence)))

-- and of the expansion
module _ (hs : List HandedKind) where
  pub one_kind : (so_far : List TileKind) (n : ℕ) (x : TileKind) → n < 2 * length hs → x ≡ seen hs (n / 2) (n % 2 == 1) → so_far ++ drop n (expanded hs) ≡ expanded hs → (so_far ++ x ∷ []) ++ drop (n + 1) (expanded hs) ≡ expanded hs
  one_kind so_far n x lt item is = one_more so_far (expanded hs) n x no_kind (omega (arith, lt, expanded_length hs)) is (item ∙ sym (seen_at hs n lt))

  pub all_kinds : (so_far : List TileKind) (n : ℕ) → 2 * length hs ≤ n → so_far ++ drop n (expanded hs) ≡ expanded hs → so_far ≡ expanded hs
  all_kinds so_far n le is = whole so_far (expanded hs) n is (omega (arith, le, expanded_length hs))
