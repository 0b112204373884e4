-- Bytes are cut at the first byte that is the separator, in one way.
use Rattle.std.proofs.Common.{◌≡◌, ◌≢◌, ℕ, suc, ◌+◌, ◌-◌, ◌<◌, true, List, [], ◌∷◌, ◌++◌, length, get_or, take, drop, refl, sym, ap, ◌∙◌, subst, arith}
use Rattle.std.proofs.Math.Seq.{split_at}
use Rattle.std.proofs.lemmas.Bool.Decides.{nat_tests}
use Rattle.std.proofs.lemmas.List.{get_or-take, length-take, length-drop, take_all}
use Rattle.std.proofs.lemmas.List.Elements.{All-from_get_or, All-head, All-tail}
use Rattle.memchr.specs.Find.{Passes, is_byte, Nowhere}
use Rattle.command_text.specs.Words.{Lacks}

-- a byte that does not pass the test is another one
other_byte : (byte b : ℕ) → ¬ (is_byte byte b ≡ true) → b ≢ byte
other_byte byte b fails = λ e. absurd (fails (grind (arith, nat_tests)))

pub cut_at_first :
    (byte : ℕ) (bytes : List ℕ) (k : ℕ) → k < length bytes → Passes (is_byte byte) bytes k
    → bytes ≡ take k bytes ++ byte ∷ drop (k + 1) bytes
cut_at_first byte bytes k inside passes =
    let is : get_or bytes k 0 ≡ byte = grind (arith, nat_tests) in
    let next : suc k ≡ k + 1 = omega arith in
    split_at bytes k 0 inside
    ∙ ap (λ (b : ℕ). take k bytes ++ b ∷ drop (suc k) bytes) is
    ∙ ap (λ (n : ℕ). take k bytes ++ byte ∷ drop n bytes) next

-- the same, where the rest is taken out as a slice
pub cut_at_slice :
    (byte : ℕ) (bytes : List ℕ) (k : ℕ) → k < length bytes → Passes (is_byte byte) bytes k
    → bytes ≡ take k bytes ++ byte ∷ take (length bytes - (k + 1)) (drop (k + 1) bytes)
cut_at_slice byte bytes k inside passes =
    let whole : take (length bytes - (k + 1)) (drop (k + 1) bytes) ≡ drop (k + 1) bytes =
    take_all (length bytes - (k + 1)) (drop (k + 1) bytes)
    (rw (length-drop (k + 1) bytes) (omega arith)) in
    cut_at_first byte bytes k inside passes
    ∙ ap (λ (l : List ℕ). take k bytes ++ byte ∷ l) (sym whole)

pub lacks_before :
    (byte : ℕ) (bytes : List ℕ) (k : ℕ) → k < length bytes
    → Nowhere (Passes (is_byte byte) bytes) 0 k → Lacks byte (take k bytes)
lacks_before byte bytes k inside before =
    let size : length (take k bytes) ≡ k = length-take k bytes ∙ omega (arith, inside) in
    All-from_get_or (λ b. b ≢ byte) (take k bytes) 0 (λ i less.
    let near : i < k = omega (arith, size, less) in
    subst (λ (b : ℕ). b ≢ byte) (sym (get_or-take k bytes i 0 near))
    (other_byte byte (get_or bytes i 0) (before i (omega arith) near)))

pub lacks_all :
    (byte : ℕ) (bytes : List ℕ) → Nowhere (Passes (is_byte byte) bytes) 0 (length bytes)
    → Lacks byte bytes
lacks_all byte bytes nowhere =
    All-from_get_or (λ b. b ≢ byte) bytes 0
    (λ i less. other_byte byte (get_or bytes i 0) (nowhere i (omega arith) less))

abbrev Differs : ℕ → ℕ → Type 0
Differs byte b = b ≢ byte

-- bytes without a byte are not split by it
pub lacks_none :
    (byte : ℕ) (bytes front rest : List ℕ) → Lacks byte bytes → bytes ≡ front ++ byte ∷ rest → ⊥
lacks_none byte [] [] rest lacks e = absurd (cc)
lacks_none byte [] (b ∷ front) rest lacks e = absurd (cc)
lacks_none byte (x ∷ bytes) [] rest lacks e =
    All-head (Differs byte) x bytes lacks (ap (λ (l : List ℕ). get_or l 0 0) e)
lacks_none byte (x ∷ bytes) (b ∷ front) rest lacks e =
    lacks_none byte bytes front rest (All-tail (Differs byte) x bytes lacks)
    (ap (λ (l : List ℕ). drop 1 l) e)

-- the first such byte splits the bytes in one way
pub one_split :
    (byte : ℕ) (front other rest tail : List ℕ) → Lacks byte front → Lacks byte other
    → front ++ byte ∷ rest ≡ other ++ byte ∷ tail → (front ≡ other) × (rest ≡ tail)
one_split byte [] [] rest tail lacks too e = (refl, ap (λ (l : List ℕ). drop 1 l) e)
one_split byte [] (b ∷ other) rest tail lacks too e =
    absurd (All-head (Differs byte) b other too (sym (ap (λ (l : List ℕ). get_or l 0 0) e)))
one_split byte (b ∷ front) [] rest tail lacks too e =
    absurd (All-head (Differs byte) b front lacks (ap (λ (l : List ℕ). get_or l 0 0) e))
one_split byte (b ∷ front) (b' ∷ other) rest tail lacks too e =
    let head : b ≡ b' = ap (λ (l : List ℕ). get_or l 0 0) e in
    let same =
    one_split byte front other rest tail (All-tail (Differs byte) b front lacks)
    (All-tail (Differs byte) b' other too) (ap (λ (l : List ℕ). drop 1 l) e) in
    (cc (head, same.0), same.1)
