-- The kinds of the expansion by their numbers.
use Rattle.std.proofs.Common.{◌≡◌, ℕ, ◌*◌, ◌/◌, ◌%◌, ◌==◌, ◌<◌, ◌≤◌, inl, inr, Bool, true, false, List, length, sym, ap, ap₂, ◌∙◌, arith}
use Rattle.std.specs.List.{range_with_len}
use Rattle.std.proofs.lemmas.Bool.{cases_eq, cases_lt}
use Rattle.std.proofs.lemmas.Bool.Decides.{nat_tests}
use Rattle.std.proofs.lemmas.List.{length-map}
use Rattle.std.proofs.lemmas.List.FromFn.{get_or-map-range_with_len, length-range_with_len}
use Rattle.std.proofs.Math.ListN.{get_or-eq_default}
use Rattle.tile_model.specs.Tessellations.{TileKind, no_kind, kind_at}
use Rattle.handed_kinds.specs.Handed.{HandedKind, no_handed, handed_at}
use Rattle.handed_kinds.specs.Expansion.{number, seen, expanded}

-- the kind and the hand of a number
pub number_kind : (k : ℕ) (hand : Bool) → number k hand / 2 ≡ k
number_kind k false = omega arith
number_kind k true = omega arith

pub number_hand : (k : ℕ) (hand : Bool) → (number k hand % 2 == 1) ≡ hand
number_hand k false = grind (arith, nat_tests)
number_hand k true = grind (arith, nat_tests)

pub number_of : (n : ℕ) → number (n / 2) (n % 2 == 1) ≡ n
number_of n = elim (cases_eq (n % 2) 1) [
  | inl odd ↦ rw (test odd) (omega arith)
  | inr even ↦ rw (other even) (omega arith)
]
  where
    test : n % 2 ≡ 1 → (n % 2 == 1) ≡ true
    test odd = grind (arith, nat_tests)

    other : (n % 2 ≡ 1 → ⊥) → (n % 2 == 1) ≡ false
    other even = grind (arith, nat_tests)

number_below : (k n : ℕ) (hand : Bool) → k < n → number k hand < 2 * n
number_below k n false lt = omega arith
number_below k n true lt = omega arith

number_beyond : (k n : ℕ) (hand : Bool) → n ≤ k → 2 * n ≤ number k hand
number_beyond k n false le = omega arith
number_beyond k n true le = omega arith

module _ (hs : List HandedKind) where
  abbrev pub seen_of : ℕ → TileKind
  seen_of n = seen hs (n / 2) (n % 2 == 1)

  pub expanded_length : length (expanded hs) ≡ 2 * length hs
  expanded_length = length-map (range_with_len 0 (2 * length hs)) seen_of ∙ length-range_with_len 0 (2 * length hs)

  pub seen_number : (k : ℕ) (hand : Bool) → seen_of (number k hand) ≡ seen hs k hand
  seen_number k hand = ap₂ (λ (j : ℕ) (h : Bool). seen hs j h) (number_kind k hand) (number_hand k hand)

  pub seen_at : (n : ℕ) → n < 2 * length hs → kind_at (expanded hs) n ≡ seen_of n
  seen_at n lt = get_or-map-range_with_len seen_of 0 (2 * length hs) n n no_kind lt (omega arith)

  -- kind k as it is seen with a hand
  pub kind_is : (k : ℕ) (hand : Bool) → k < length hs → kind_at (expanded hs) (number k hand) ≡ seen hs k hand
  kind_is k hand lt = seen_at (number k hand) (number_below k (length hs) hand lt) ∙ seen_number k hand

  pub number_there : (k : ℕ) (hand : Bool) → k < length hs → number k hand < length (expanded hs)
  number_there k hand lt = omega (arith, expanded_length, number_below k (length hs) hand lt)

  pub number_back : (k : ℕ) (hand : Bool) → number k hand < length (expanded hs) → k < length hs
  number_back k hand lt = elim (cases_lt k (length hs)) [
    | inl there ↦ there
    | inr beyond ↦ absurd (omega (arith, lt, expanded_length, number_beyond k (length hs) hand beyond))
  ]

  none_there : (k : ℕ) (hand : Bool) → length hs ≤ k → kind_at (expanded hs) (number k hand) ≡ no_kind
  none_there k hand le = get_or-eq_default (expanded hs) no_kind (omega (arith, expanded_length, number_beyond k (length hs) hand le))

  none_handed : (k : ℕ) → length hs ≤ k → handed_at hs k ≡ no_handed
  none_handed k le = get_or-eq_default hs no_handed le

  pub repeat_is : (k : ℕ) (hand : Bool) → (kind_at (expanded hs) (number k hand)).repeat ≡ (handed_at hs k).repeat
  repeat_is k hand = elim (cases_lt k (length hs)) [
    | inl lt ↦ ap (λ (x : TileKind). x.repeat) (kind_is k hand lt)
    | inr le ↦ ap (λ (x : TileKind). x.repeat) (none_there k hand le) ∙ ap (λ (x : HandedKind). x.repeat) (sym (none_handed k le))
  ]

  pub sides_is : (k : ℕ) (hand : Bool) → (kind_at (expanded hs) (number k hand)).sides ≡ (handed_at hs k).sides
  sides_is k hand = elim (cases_lt k (length hs)) [
    | inl lt ↦ ap (λ (x : TileKind). x.sides) (kind_is k hand lt)
    | inr le ↦ ap (λ (x : TileKind). x.sides) (none_there k hand le) ∙ ap (λ (x : HandedKind). x.sides) (sym (none_handed k le))
  ]
