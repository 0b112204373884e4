-- The type at a place, as the letter before it tells it.
use Rattle.std.proofs.Common.{◌≡◌, ℕ, suc, ◌+◌, ◌-◌, ◌<◌, List, length, take, slice_index_or, sym, ap, ◌∙◌, subst, arith}
use Rattle.tile_model.specs.Tessellations.{TileKind, IsType}
use Rattle.tile_model.specs.Validity.{IsValid}
use Rattle.tile_model.specs.Walks.{step, type_of}
use Rattle.tile_model.proofs.Types.{walk_type}
use Rattle.log_checker.specs.Footprints.{TypedLetter, typed, AreTyped}
use Rattle.log_checker.specs.Trails.{joined, walk_of, piece_at, Covers}
use Rattle.log_checker.proofs.Pieces.{read_piece, letter_in_piece, piece_within}
use Rattle.log_checker.proofs.LetterTypes.{length_letters, type_told, type_behind}

module _ (kinds : List TileKind) (d : ℕ × ℕ) (ps : List (List TypedLetter)) (i b place : ℕ) (p : List TypedLetter) (m : TypedLetter) (footprints : AreTyped kinds d (joined ps)) (covers : Covers ps i b place) (some : 0 < place) (piece : p ≡ slice_index_or ps i p) (is : m ≡ slice_index_or p (place - b - 1) m) where
  -- the letter stands before the place in the whole
  before_end : b + (place - b - 1) < length (walk_of ps)
  before_end = omega (arith, covers.within, covers.not_first some, piece_within ps i b covers.begins, length_letters (joined ps))

  told : m ≡ slice_index_or (typed kinds d (walk_of ps)) (b + (place - b - 1)) m
  told =
      let within : place - b - 1 < length (piece_at ps i) = omega (arith, covers.within, covers.not_first some) in
      let in_piece : m ≡ slice_index_or (piece_at ps i) (place - b - 1) m = is ∙ ap (λ q. slice_index_or q (place - b - 1) m) (read_piece ps i p covers.begins.inside piece) in
      in_piece ∙ sym (letter_in_piece ps i b (place - b - 1) m covers.begins within) ∙ ap (λ q. slice_index_or q (b + (place - b - 1)) m) footprints

  pub is_type_before : IsValid kinds → IsType kinds d → IsType kinds m.1
  is_type_before valid h =
      let e = type_told kinds d (walk_of ps) (b + (place - b - 1)) m before_end told in
      subst (IsType kinds) (sym e) (walk_type kinds valid d (take (b + (place - b - 1)) (walk_of ps)) h)

  pub type_at_place : step kinds m.1 m.0 ≡ type_of kinds d (take place (walk_of ps))
  type_at_place =
      let e : suc (b + (place - b - 1)) ≡ place = omega (arith, covers.not_first some) in
      type_behind kinds d (walk_of ps) (b + (place - b - 1)) m before_end told ∙ ap (λ n. type_of kinds d (take n (walk_of ps))) e
