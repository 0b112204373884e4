-- A beginning of two joined lists is one of the first, or the first and a beginning of the second.
use Rattle.std.proofs.Common.{◌≡◌, List, [], ◌∷◌, ◌++◌, refl, ap, subst}
use Rattle.tile_model.specs.declared.Letter.{Letter}

pub data Splits (x y p r : List Letter) : Type 0 where
  inside : (m : List Letter) → x ≡ p ++ m → Splits x y p r
  beyond : (m : List Letter) → p ≡ x ++ m → y ≡ m ++ r → Splits x y p r

heads : {a b : Letter} {x y : List Letter} → a ∷ x ≡ b ∷ y → (a ≡ b) × (x ≡ y)
heads e = (cc (e), cc (e))

splits_on : (a : Letter) (x y p r : List Letter) → Splits x y p r → Splits (a ∷ x) y (a ∷ p) r
splits_on a x y p r (inside m e) = inside m (ap (λ l. a ∷ l) e)
splits_on a x y p r (beyond m e f) = beyond m (ap (λ l. a ∷ l) e) f

pub splits : (x y p r : List Letter) → x ++ y ≡ p ++ r → Splits x y p r
splits [] y p r e = beyond p refl e
splits (a ∷ x) y [] r e = inside (a ∷ x) refl
splits (a ∷ x) y (b ∷ p) r e =
    let same = heads e in
    subst (λ c. Splits (a ∷ x) y (c ∷ p) r) same.0 (splits_on a x y p r (splits x y p r same.1))
