-- Sums over tiles and over children, as they are counted.
use Rattle.std.proofs.Common.{◌≡◌, ℕ, zero, suc, ◌+◌, ◌*◌, ◌<◌, ◌≤◌, List, [], ◌∷◌, ◌++◌, length, drop, replicate, slice_index_or, slice_set, refl, sym, ap, ap₂, ◌∙◌, arith}
use Rattle.tree_model.proofs.Rings.{count_sides}
use Rattle.ring_listing.specs.declared.family.Children.{Children}
use Rattle.ring_listing.specs.Populations.{children_sum, tiles_sum}

pub sum_of_none : (f : ℕ → ℕ) (s n : ℕ) → tiles_sum f s (replicate n 0) ≡ 0
sum_of_none f s zero = refl
sum_of_none f s (suc n) = let rest = sum_of_none f (suc s) n in omega (arith, rest)

-- so many tiles more in the state of one place
pub sum_with : (f : ℕ → ℕ) (s : ℕ) (tiles : List ℕ) (k n m : ℕ) → k < length tiles → n ≡ slice_index_or tiles k 0 + m → tiles_sum f s (slice_set tiles k n) ≡ tiles_sum f s tiles + m * f (s + k)
sum_with f s [] k n m less new = absurd (omega (arith, less))
sum_with f s (t ∷ tiles) zero n m less new =
    let place : f (s + 0) ≡ f s = ap f (omega arith) in
    let product : n * f s ≡ t * f s + m * f s = ap (λ x. x * f s) new ∙ omega arith in
    omega (arith, product, ap (λ x. m * x) place)
sum_with f s (t ∷ tiles) (suc k) n m less new =
    let rest = sum_with f (suc s) tiles k n m (omega (arith, less)) new in
    let place : f (suc s + k) ≡ f (s + suc k) = ap f (omega arith) in
    omega (arith, rest, ap (λ x. m * x) place)

-- one entry is no more than all
pub one_of_all : (s : ℕ) (tiles : List ℕ) (k : ℕ) → slice_index_or tiles k 0 ≤ tiles_sum (λ _. 1) s tiles
one_of_all s [] k = omega arith
one_of_all s (t ∷ tiles) zero = omega arith
one_of_all s (t ∷ tiles) (suc k) = let rest = one_of_all (suc s) tiles k in omega (arith, rest)

-- what one state adds
pub sum_from : (f : ℕ → ℕ) (s : ℕ) (tiles : List ℕ) (k : ℕ) → k < length tiles
    → tiles_sum f (s + k) (drop k tiles) ≡ slice_index_or tiles k 0 * f (s + k) + tiles_sum f (s + suc k) (drop (suc k) tiles)
sum_from f s [] k less = absurd (omega (arith, less))
sum_from f s (t ∷ tiles) zero less =
    let there : s + 0 ≡ s = omega arith in
    let behind : suc s ≡ s + suc 0 = omega arith in
    ap (λ x. t * f x + tiles_sum f (suc x) tiles) there ∙ ap₂ (λ x y. t * f x + tiles_sum f y tiles) (sym there) behind
sum_from f s (t ∷ tiles) (suc k) less =
    let there : s + suc k ≡ suc s + k = omega arith in
    let behind : suc s + suc k ≡ s + suc (suc k) = omega arith in
    ap (λ x. tiles_sum f x (drop k tiles)) there ∙ sum_from f (suc s) tiles k (omega (arith, less))
    ∙ ap₂ (λ x y. slice_index_or tiles k 0 * f x + tiles_sum f y (drop (suc k) tiles)) (sym there) behind

pub sum_same : (f g : ℕ → ℕ) (s : ℕ) (tiles : List ℕ) → ((t : ℕ) → s ≤ t → t < s + length tiles → f t ≡ g t) → tiles_sum f s tiles ≡ tiles_sum g s tiles
sum_same f g s [] same = refl
sum_same f g s (t ∷ tiles) same =
    ap₂ (λ x y. t * x + y) (same s (omega arith) (omega arith))
    (sum_same f g (suc s) tiles (λ u l h. same u (omega (arith, l)) (omega (arith, h))))

-- the same of children
pub children_from : (f : ℕ → ℕ) (cs : List Children) (k : ℕ) (d : Children) → k < length cs
    → children_sum f (drop k cs) ≡ (slice_index_or cs k d).sides * f (slice_index_or cs k d).state + children_sum f (drop (suc k) cs)
children_from f [] k d less = absurd (omega (arith, less))
children_from f (c ∷ cs) zero d less = refl
children_from f (c ∷ cs) (suc k) d less = children_from f cs k d (omega (arith, less))

pub children_with : (f : ℕ → ℕ) (cs : List Children) (k : ℕ) (c d : Children) → k < length cs → c.state ≡ (slice_index_or cs k d).state → c.sides ≡ suc (slice_index_or cs k d).sides
    → children_sum f (slice_set cs k c) ≡ children_sum f cs + f c.state
children_with f [] k c d less state sides = absurd (omega (arith, less))
children_with f (b ∷ cs) zero c d less state sides =
    let product : c.sides * f c.state ≡ b.sides * f b.state + f c.state
    = ap (λ x. x * f c.state) sides ∙ ap (λ x. suc b.sides * f x) state ∙ (let one : suc b.sides * f b.state ≡ b.sides * f b.state + f b.state = omega arith in one) ∙ ap (λ x. b.sides * f b.state + f x) (sym state) in
    omega (arith, product)
children_with f (b ∷ cs) (suc k) c d less state sides =
    let rest = children_with f cs k c d (omega (arith, less)) state sides in omega (arith, rest)

pub children_push : (f : ℕ → ℕ) (cs : List Children) (c : Children) → children_sum f (cs ++ c ∷ []) ≡ children_sum f cs + c.sides * f c.state
children_push f [] c = omega arith
children_push f (b ∷ cs) c = let rest = children_push f cs c in omega (arith, rest)

-- what a step over the children adds
pub children_step : (f : ℕ → ℕ) (cs : List Children) (k : ℕ) (d : Children) (tiles more old new : ℕ) → new ≡ old + more * f (slice_index_or cs k d).state → more ≡ tiles * (slice_index_or cs k d).sides → k < length cs
    → new + tiles * children_sum f (drop (suc k) cs) ≡ old + tiles * children_sum f (drop k cs)
children_step f cs k d tiles more old new sum product less =
    let from = children_from f cs k d less in
    let s = (slice_index_or cs k d).sides in
    let x = f (slice_index_or cs k d).state in
    let y = children_sum f (drop (suc k) cs) in
    let all : tiles * children_sum f (drop k cs) ≡ tiles * (s * x) + tiles * y = ap (λ z. tiles * z) from ∙ omega arith in
    let added : more * x ≡ tiles * (s * x) = ap (λ z. z * x) product ∙ omega arith in
    omega (arith, all, added, sum)

-- what a step over the states adds
pub tiles_step : (g : ℕ → ℕ) (tiles : List ℕ) (k t old new total : ℕ) → new ≡ old + t * g k → t ≡ slice_index_or tiles k 0 → k < length tiles → old + tiles_sum g k (drop k tiles) ≡ total
    → new + tiles_sum g (suc k) (drop (suc k) tiles) ≡ total
tiles_step g tiles k t old new total sum is less before =
    let here : 0 + k ≡ k = omega arith in
    let behind : 0 + suc k ≡ suc k = omega arith in
    let from = sum_from g 0 tiles k less in
    let left : tiles_sum g k (drop k tiles) ≡ t * g k + tiles_sum g (suc k) (drop (suc k) tiles)
    = ap (λ x. tiles_sum g x (drop k tiles)) (sym here) ∙ from ∙ ap₂ (λ x y. x * g y + tiles_sum g (0 + suc k) (drop (suc k) tiles)) (sym is) here
    ∙ ap (λ x. t * g k + tiles_sum g x (drop (suc k) tiles)) behind in
    omega (arith, sum, left, before)

-- the last side added
pub sides_more : (f : ℕ → ℕ) (n i : ℕ) → count_sides f (suc n) i ≡ count_sides f n i + f (i + n)
sides_more f zero i = let place : f (i + 0) ≡ f i = ap f (omega arith) in omega (arith, place)
sides_more f (suc n) i =
    let rest = sides_more f n (suc i) in
    let place : f (suc i + n) ≡ f (i + suc n) = ap f (omega arith) in
    omega (arith, rest, place)

pub sides_last : (f : ℕ → ℕ) (n : ℕ) → count_sides f n 0 + f n ≡ count_sides f (n + 1) 0
sides_last f n =
    let place : f n ≡ f (0 + n) = ap f (omega arith) in
    let same : suc n ≡ n + 1 = omega arith in
    ap (λ x. count_sides f n 0 + x) place ∙ sym (sides_more f n 0) ∙ ap (λ m. count_sides f m 0) same
