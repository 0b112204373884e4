-- Lists that begin alike, block by block.
use Rattle.std.proofs.Common.{◌≡◌, ℕ, ◌+◌, ◌≤◌, List, ◌++◌, take, drop, sym, ap, ap₂, ◌∙◌, arith}
use Rattle.std.proofs.lemmas.List.{take-append-drop, drop-take, take-take}

-- what a list begins with, cut in two
cut : {X : Type 0} (n k : ℕ) (l : List X) → take (n + k) l ≡ take n l ++ take k (drop n l)
cut n k l =
    sym (take-append-drop n (take (n + k) l))
    ∙ ap₂ (λ a b. a ++ b) (take-take n (n + k) l (omega (arith))) (drop-take n k l)

-- two lists that begin alike, and behind that with one block
pub one_block_more : {X : Type 0} (n k : ℕ) (l r : List X) → take n l ≡ take n r
    → take k (drop n l) ≡ take k (drop n r) → take (n + k) l ≡ take (n + k) r
one_block_more n k l r begin block =
    cut n k l ∙ ap₂ (λ a b. a ++ b) begin block ∙ sym (cut n k r)
