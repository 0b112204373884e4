-- The letters read have the bytes read as their codes.
use Rattle.std.proofs.Common.{◌≡◌, take, map}
use Rattle.tile_model.specs.WalkTexts.{letter_code}
use Rattle.walk_words.proofs.text.read_walk.Given as goal

abbrev pub invariant-loop-byte : goal.invariant-loop-byte
invariant-loop-byte l = map letter_code l.walk ≡ take l.byte-index l.bytes
