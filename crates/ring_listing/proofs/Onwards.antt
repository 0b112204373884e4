-- A trail after each move: it is a trail again, comes to the same names, and has fewer moves left.
use Rattle.std.proofs.Common.{◌≡◌, ◌≢◌, ℕ, suc, ◌+◌, ◌-◌, ◌<◌, ◌≤◌, List, [], ◌∷◌, ◌++◌, length, take, slice_index_or, slice_set, refl, sym, ap, ap₂, ◌∙◌, subst, arith, ◌⊎◌, inl, inr}
use Rattle.std.proofs.Math.Seq.{take-suc, take-suc-set, take-length}
use Rattle.std.proofs.lemmas.Bool.{cases_lt}
use Rattle.std.proofs.lemmas.List.{length-set, length-take-le, take-set-le, get_or-set_same, get_or-set_other}
use Rattle.tree_model.specs.Automata.{root_at}
use Rattle.tree_model.specs.Names.{reached, IsNameBelow}
use Rattle.tree_model.proofs.Rings.{names_below}
use Rattle.structure_check.specs.Rules.{TreeRules}
use Rattle.ring_listing.specs.declared.trail.Trail.{Trail}
use Rattle.ring_listing.specs.Trails.{IsTrail, IsNextSide, IsDone, tile_state, names_behind, names_left, moves_behind, moves_left}
use Rattle.ring_listing.proofs.Known.{reached_known, name_push, reached_push, name_pop}
use Rattle.ring_listing.proofs.Behind.{behind_down, behind_back, behind_whole, behind_root, behind_first}
use Rattle.ring_listing.proofs.Moves.{moves_down, moves_back}

-- what a move keeps
pub record HasMoved (r : TreeRules) (k : ℕ) (t u : Trail) : Type 0 where
  pub trail : IsTrail r k u
  pub same : names_left r k u ≡ names_left r k t
  pub fewer : moves_left u < moves_left t

module _ (r : TreeRules) (k : ℕ) where
  -- the state of the tile, as it is read
  pub state_read : (t : Trail) → IsTrail r k t → slice_index_or t.states.items t.level 0 ≡ tile_state r k t
  state_read t h = h.states t.level (omega arith)

  pub state_known : (t : Trail) → IsTrail r k t → tile_state r k t < length r.automaton.states
  state_known t h =
      reached_known r.kinds r.automaton h.sound.accepted.c1 (root_at r.automaton k) (take t.level t.name) (h.sound.accepted.c1.root k h.kind) h.name

  left_is : (t : Trail) (e : ℕ) (m : List ℕ) (i : ℕ) → length t.name ≡ e → take t.level t.name ≡ m → t.side ≡ i
      → names_left r k t ≡ names_behind r.kinds r.automaton e (root_at r.automaton k) m i
  left_is t e m i same name side =
      ap₂ (λ x y. names_behind r.kinds r.automaton x (root_at r.automaton k) y t.side) same name
      ∙ ap (names_behind r.kinds r.automaton e (root_at r.automaton k) m) side

  moves_are : (t : Trail) (e : ℕ) (m : List ℕ) (i : ℕ) → length t.name ≡ e → take t.level t.name ≡ m → t.side ≡ i → moves_left t ≡ moves_behind e m i
  unfolding moves_left
  moves_are t e m i same name side =
      ap₂ (λ x y. moves_behind x y t.side) same name ∙ ap (moves_behind e m) side

  module _ (t u : Trail) (x c : ℕ) (h : IsTrail r k t) (next : IsNextSide r.kinds r.automaton (tile_state r k t) t.side x c) (level : t.level < length t.name) (small : x < 64)
      (name : u.name ≡ slice_set t.name t.level x) (states : u.states.items ≡ slice_set t.states.items (suc t.level) c) (deeper : u.level ≡ suc t.level) (first : u.side ≡ 0) where
    down_length : length u.name ≡ length t.name
    down_length = ap length name ∙ length-set t.name t.level x

    down_name : take u.level u.name ≡ take t.level t.name ++ x ∷ []
    down_name = ap₂ take deeper name ∙ take-suc-set t.name t.level x level

    down_state : (j : ℕ) → (j < suc t.level) ⊎ (suc t.level ≤ j) → j ≤ u.level → slice_index_or u.states.items j 0 ≡ reached r.automaton (root_at r.automaton k) (take j u.name)
    down_state j (inl l) within =
        let other : j ≢ suc t.level = λ e. absurd (omega (arith, l, e)) in
        ap (λ s. slice_index_or s j 0) states ∙ get_or-set_other t.states.items (suc t.level) j c 0 other
        ∙ h.states j (omega (arith, l))
        ∙ ap (reached r.automaton (root_at r.automaton k)) (sym (ap (take j) name ∙ take-set-le j t.name t.level x (omega (arith, l))))
    down_state j (inr l) within =
        let here : j ≡ suc t.level = omega (arith, l, within, deeper) in
        let there : take j u.name ≡ take t.level t.name ++ x ∷ [] = ap (λ n. take n u.name) (here ∙ sym deeper) ∙ down_name in
        ap₂ (λ s n. slice_index_or s n 0) states here
        ∙ get_or-set_same t.states.items (suc t.level) c 0 (omega (arith, h.room, level))
        ∙ sym (reached_push r.kinds r.automaton (root_at r.automaton k) (take t.level t.name) x c next.child)
        ∙ ap (reached r.automaton (root_at r.automaton k)) (sym there)

    pub went_down : HasMoved r k t u
    went_down =
        let m = take t.level t.name in
        let short : length m < length t.name = omega (arith, length-take-le t.level t.name h.level, level) in
        record {
          trail = record {
            sound = h.sound;
            kind = h.kind;
            level = omega (arith, deeper, down_length, level);
            side = omega (arith, first);
            room = ap length states ∙ length-set t.states.items (suc t.level) c ∙ h.room ∙ ap suc (sym down_length);
            name = subst (IsNameBelow r.kinds r.automaton (root_at r.automaton k)) (sym down_name) (name_push r.kinds r.automaton (root_at r.automaton k) m x c h.name next.below next.child);
            states = λ j within. down_state j (cases_lt j (suc t.level)) within;
          };
          same = left_is u (length t.name) (m ++ x ∷ []) 0 down_length down_name first
              ∙ behind_down r.kinds r.automaton (length t.name) (root_at r.automaton k) m t.side x c short next.from next.below next.child next.first;
          fewer =
              let old = moves_are t (length t.name) m t.side refl refl refl in
              let new = moves_are u (length t.name) (m ++ x ∷ []) 0 down_length down_name first in
              let less = moves_down (length t.name) m t.side x short next.from small in
              omega (arith, old, new, less);
        }

  module _ (t u : Trail) (h : IsTrail r k t) (done : IsDone r.kinds r.automaton (length t.name - t.level) (tile_state r k t) t.side)
      (name : u.name ≡ t.name) (states : u.states.items ≡ t.states.items) (higher : t.level ≡ suc u.level) (behind : u.side ≡ suc (slice_index_or t.name u.level 0)) (small : u.side ≤ 64) where
    back_name : take t.level t.name ≡ take u.level t.name ++ slice_index_or t.name u.level 0 ∷ []
    back_name = ap (λ n. take n t.name) higher ∙ take-suc t.name u.level 0 (omega (arith, higher, h.level))

    pub went_back : HasMoved r k t u
    went_back =
        let m = take u.level t.name in
        let x = slice_index_or t.name u.level 0 in
        let named : take u.level u.name ≡ m = ap (take u.level) name in
        let count : length m ≡ u.level = length-take-le u.level t.name (omega (arith, higher, h.level)) in
        let left : length t.name ≡ suc (length m) + (length t.name - t.level) = omega (arith, count, higher, h.level) in
        let there = subst (λ n. IsDone r.kinds r.automaton (length t.name - t.level) (reached r.automaton (root_at r.automaton k) n) t.side) back_name done in
        record {
          trail = record {
            sound = h.sound;
            kind = h.kind;
            level = omega (arith, ap length name, higher, h.level);
            side = small;
            room = ap length states ∙ h.room ∙ ap (λ l. suc (length l)) (sym name);
            name = subst (IsNameBelow r.kinds r.automaton (root_at r.automaton k)) (sym named)
                (name_pop r.kinds r.automaton (root_at r.automaton k) m x (subst (IsNameBelow r.kinds r.automaton (root_at r.automaton k)) back_name h.name));
            states = λ j within. ap (λ s. slice_index_or s j 0) states ∙ h.states j (omega (arith, within, higher)) ∙ ap (λ l. reached r.automaton (root_at r.automaton k) (take j l)) (sym name);
          };
          same = left_is u (length t.name) m (suc x) (ap length name) named behind
              ∙ behind_back r.kinds r.automaton (length t.name) (root_at r.automaton k) m x t.side (length t.name - t.level) left there
              ∙ sym (left_is t (length t.name) (m ++ x ∷ []) t.side refl back_name refl);
          fewer =
              let old = moves_are t (length t.name) (m ++ x ∷ []) t.side refl back_name refl in
              let new = moves_are u (length t.name) m (suc x) (ap length name) named behind in
              let less = moves_back (length t.name) m x t.side (omega (arith, left)) h.side (omega (arith, behind, small)) in
              omega (arith, old, new, less);
        }

  -- at the root, with nothing to come
  pub ended : (t : Trail) → t.level ≡ 0 → IsDone r.kinds r.automaton (length t.name - t.level) (tile_state r k t) t.side → names_left r k t ≡ []
  ended t top done =
      let root = root_at r.automaton k in
      let none : take t.level t.name ≡ [] = ap (λ n. take n t.name) top in
      let all : length t.name - t.level ≡ length t.name = omega (arith, top) in
      let there = subst (λ n. IsDone r.kinds r.automaton n (tile_state r k t) t.side) all done in
      let here = subst (λ m. IsDone r.kinds r.automaton (length t.name) (reached r.automaton root m) t.side) none there in
      left_is t (length t.name) [] t.side refl none refl ∙ behind_root r.kinds r.automaton (length t.name) root t.side here

  -- at a name of full length
  pub whole : (t u : Trail) → t.level ≡ length t.name → t.side ≡ 0 → u.name ≡ t.name → u.level ≡ t.level → u.side ≡ 1 → names_left r k t ≡ u.name ∷ names_left r k u
  whole t u full new name level given =
      let root = root_at r.automaton k in
      let all : take t.level t.name ≡ t.name = ap (λ n. take n t.name) full ∙ take-length t.name in
      let kept : take u.level u.name ≡ t.name = ap₂ take level name ∙ all in
      left_is t (length t.name) t.name 0 refl all new ∙ behind_whole r.kinds r.automaton root t.name
      ∙ ap₂ (λ x y. x ∷ y) (sym name) (sym (left_is u (length t.name) t.name 1 (ap length name) kept given))

  -- in front of the first name
  pub all_left : (t : Trail) (d : ℕ) → length t.name ≡ d → t.level ≡ 0 → t.side ≡ 0 → names_left r k t ≡ names_below r.kinds r.automaton d (root_at r.automaton k)
  all_left t d sides top new =
      let none : take t.level t.name ≡ [] = ap (λ n. take n t.name) top in
      left_is t d [] 0 sides none new ∙ behind_first r.kinds r.automaton d (root_at r.automaton k)
