-- A buffer to whose front the next bytes of a list were copied.
use Rattle.std.proofs.Common.{◌≡◌, ℕ, ◌+◌, ◌≤◌, List, ◌++◌, length, take, drop, sym, ◌∙◌, ap, arith, length-take}
use Rattle.std.proofs.lemmas.List.{take_at, take-append-drop, drop-drop}

-- what was left is what the buffer begins with, and then what is left now
pub front : (bytes tail copied : List ℕ) (at n : ℕ) → n ≤ length (drop at bytes) → copied ≡ take n (drop at bytes) → drop at bytes ≡ take n (copied ++ tail) ++ drop (at + n) bytes
front bytes tail copied at n within is =
    let len : length copied ≡ n = omega (arith, ap length is, length-take n (drop at bytes), within) in
    let begins : take n (copied ++ tail) ≡ take n (drop at bytes) = take_at copied tail n len ∙ is in
    sym (take-append-drop n (drop at bytes)) ∙ ap (λ (l : List ℕ). take n (drop at bytes) ++ l) (drop-drop n at bytes) ∙ ap (λ (l : List ℕ). l ++ drop (at + n) bytes) (sym begins)
