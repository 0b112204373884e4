-- Elements that are apart, one from the next.
use Rattle.std.proofs.Common.{◌≡◌, ◌<◌, ℕ, ℤ, ◌+ℤ◌, ◌-ℤ◌, pos, List, length, sym, ap₂, subst, arith}
use Rattle.std.proofs.lemmas.Int.{ints}
use Rattle.weighted_sets.specs.declared.shift.Shift.{Shift}
use Rattle.weighted_sets.specs.Sets.{Link, link_at, AreApart, IsKnown, Keep, KeepSame, KeepMore, KeepRoots, IsRoot, IsContradiction}

pub same_trans : (a b c : List Link) → KeepSame a b → KeepSame b c → KeepSame a c
unfolding KeepSame
same_trans a b c ab bc places depths =
    (λ k. (bc places depths).0 ((ab places depths).0 k), λ k. (ab places depths).1 ((bc places depths).1 k))

pub same_of : (a b : List Link) → a ≡ b → KeepSame a b
unfolding KeepSame
same_of a b is places depths =
    (subst (Keep places depths) is, subst (Keep places depths) (sym is))

pub roots_of : (a b : List Link) → a ≡ b → KeepRoots a b
unfolding KeepRoots
roots_of a b is x _ root = subst (λ l. IsRoot l x) is root

pub roots_trans : (a b c : List Link) → length b ≡ length a → KeepRoots a b → KeepRoots b c → KeepRoots a c
unfolding KeepRoots
roots_trans a b c is ab bc x under root = bc x (subst (λ n. x < n) (sym is) under) (ab x under root)

pub known_self : (links : List Link) (x : ℕ) (shift : Shift) → shift.place ≡ pos 0
    → shift.depth ≡ pos 0 → IsKnown links x x shift
unfolding IsKnown
known_self links x shift place depth places depths _ = record {
  place = omega (arith, ints, place);
  depth = omega (arith, ints, depth);
}

-- one more link on the way up, over links that keep the same
pub known_up : (before links : List Link) (at x : ℕ) (link : Link) (shift sum : Shift)
    → KeepSame before links → at < length links → link ≡ link_at links at
    → sum.place ≡ link.shift.place +ℤ shift.place → sum.depth ≡ link.shift.depth +ℤ shift.depth
    → IsKnown before at x shift → IsKnown links link.above x sum
unfolding IsKnown KeepSame
known_up before links at x link shift sum same under is place depth known places depths keep =
    let first = known places depths ((same places depths).1 keep) in
    let up : AreApart places depths link.above at link.shift = subst
    (λ l. AreApart places depths l.above at l.shift) (sym is) (keep at under) in
    record {
      place = omega (arith, ints, first.place, up.place, place);
      depth = omega (arith, ints, first.depth, up.depth, depth);
    }

-- what is known is known over all links that keep the same
pub known_same : (links others : List Link) (x y : ℕ) (shift : Shift) → KeepSame links others
    → IsKnown links x y shift → IsKnown others x y shift
unfolding IsKnown KeepSame
known_same links others x y shift same known places depths keep =
    known places depths ((same places depths).1 keep)

-- what two roots are apart where two elements of their sets are, and the other way about
pub record AreBetween (sx sy shift over : Shift) : Type 0 where
  pub place : over.place ≡ (sx.place +ℤ shift.place) -ℤ sy.place
  pub depth : over.depth ≡ (sx.depth +ℤ shift.depth) -ℤ sy.depth

module _ (links : List Link) (a b x y : ℕ) (sx sy shift over : Shift)
    (known_x : IsKnown links a x sx) (known_y : IsKnown links b y sy)
    (between : AreBetween sx sy shift over) where
  pub from_roots : (places depths : ℕ → ℤ) → Keep places depths links
      → AreApart places depths a b over → AreApart places depths x y shift
  unfolding IsKnown
  from_roots places depths keep apart =
      let ax = known_x places depths keep in
      let by = known_y places depths keep in
      record {
        place = omega (arith, ints, ax.place, by.place, apart.place, between.place);
        depth = omega (arith, ints, ax.depth, by.depth, apart.depth, between.depth);
      }

  pub to_roots : (places depths : ℕ → ℤ) → Keep places depths links
      → AreApart places depths x y shift → AreApart places depths a b over
  unfolding IsKnown
  to_roots places depths keep apart =
      let ax = known_x places depths keep in
      let by = known_y places depths keep in
      record {
        place = omega (arith, ints, ax.place, by.place, apart.place, between.place);
        depth = omega (arith, ints, ax.depth, by.depth, apart.depth, between.depth);
      }

  pub more_of_roots : (first others : List Link) → KeepSame first links
      → KeepMore links others a b over → KeepMore first others x y shift
  unfolding KeepSame KeepMore
  more_of_roots first others same more places depths = (
    λ keep. let both = (more places depths).0 keep in
        ((same places depths).1 both.0, from_roots places depths both.0 both.1),
    λ both. let keep = (same places depths).0 both.0 in
        (more places depths).1 (keep, to_roots places depths keep both.1),
  )

-- a difference seen from the other end
pub more_reversed : (links others : List Link) (x y : ℕ) (shift back : Shift)
    → back.place ≡ pos 0 -ℤ shift.place → back.depth ≡ pos 0 -ℤ shift.depth
    → KeepMore links others y x back → KeepMore links others x y shift
unfolding KeepMore
more_reversed links others x y shift back place depth more places depths = (
  λ keep. let both = (more places depths).0 keep in (
    both.0,
    record {
      place = omega (arith, ints, both.1.place, place);
      depth = omega (arith, ints, both.1.depth, depth);
    },
  ),
  λ both. (more places depths).1 (
    both.0,
    record {
      place = omega (arith, ints, both.1.place, place);
      depth = omega (arith, ints, both.1.depth, depth);
    },
  ),
)

-- two elements of one set, and a shift of the second one from the root by the first one
module _ (first links : List Link) (r x y : ℕ) (sx sy shift : Shift) (same : KeepSame first links)
    (known_x : IsKnown links r x sx) (known_y : IsKnown links r y sy) where
  pub already : sy.place ≡ sx.place +ℤ shift.place → sy.depth ≡ sx.depth +ℤ shift.depth
      → KeepMore first links x y shift
  unfolding KeepSame KeepMore IsKnown
  already place depth places depths = (
    λ keep. let rx = known_x places depths keep in
        let ry = known_y places depths keep in (
          (same places depths).1 keep,
          record {
            place = omega (arith, ints, rx.place, ry.place, place);
            depth = omega (arith, ints, rx.depth, ry.depth, depth);
          },
        ),
    λ both. (same places depths).0 both.0,
  )

  pub contradicted : (want : Shift) → want.place ≡ sx.place +ℤ shift.place
      → want.depth ≡ sx.depth +ℤ shift.depth → ¬ (sy ≡ want) → IsContradiction first x y shift
  unfolding KeepSame IsKnown IsContradiction
  contradicted want place depth other places depths keep apart =
      let rx = known_x places depths ((same places depths).0 keep) in
      let ry = known_y places depths ((same places depths).0 keep) in
      let same_place : sy.place ≡ want.place = omega (arith, ints, rx.place, ry.place, apart.place, place) in
      let same_depth : sy.depth ≡ want.depth = omega (arith, ints, rx.depth, ry.depth, apart.depth, depth) in
      other (same_shifts sy want same_place same_depth)
    where
      make : (place depth : ℤ) → Shift
      make place depth = record { place = place; depth = depth }

      same_shifts : (s t : Shift) → s.place ≡ t.place → s.depth ≡ t.depth → s ≡ t
      same_shifts s t p d = ap₂ (λ a b. make a b) p d

pub root_kept : (links others : List Link) (x : ℕ) → KeepRoots links others → x < length links
    → IsRoot links x → IsRoot others x
unfolding KeepRoots
root_kept links others x kept under root = kept x under root
