-- What a loop over a list has written when it comes to the end.
use Rattle.std.proofs.Common.{◌≡◌, ℕ, ◌≤◌, List, ◌++◌, length, drop, map, sym, ap, ◌∙◌}
use Rattle.std.proofs.lemmas.List.{append-nil, drop_all}

pub all_written : {A B : Type 0} (f : A → B) (written : List B) (xs : List A) (i : ℕ) → length xs ≤ i → written ++ map f (drop i xs) ≡ map f xs → written ≡ map f xs
all_written f written xs i ended whole = sym (append-nil written) ∙ (ap (λ ys. written ++ map f ys) (sym (drop_all i xs ended)) ∙ whole)
