-- Levels, distances and walks that are told by spots are those of the walks of the walkers.
use Rattle.std.proofs.Common.{◌≡◌, ℕ, ◌<◌, List, [], ◌∷◌, length, refl, sym, ◌∙◌, subst}
use Rattle.std.specs.Prelude.{Some}
use Rattle.tile_model.specs.declared.Letter.{Letter}
use Rattle.tile_model.specs.Tessellations.{TileKind}
use Rattle.tile_model.specs.Walks.{type_of}
use Rattle.tile_model.specs.Relation.{IsDistance}
use Rattle.tree_model.specs.Automata.{TreeAutomaton}
use Rattle.tree_model.specs.Names.{word}
use Rattle.tree_model.specs.Positions.{Position}
use Rattle.tree_model.specs.Places.{IsPlace}
use Rattle.tree_laws.specs.Laws.{HasOnePlace, IsPlaceFrom, way_to}
use Rattle.tree_laws.proofs.Together.{walks_one_place, depth_distance}
use Rattle.tree_laws.proofs.Between.{kind_known}
use Rattle.structure_check.specs.Rules.{AreSound}
use Rattle.turn_rules.specs.Spots.{TreeSpot, position}
use Rattle.step_engine.specs.Crossings.{StandsAfter}
use Rattle.cell_distance.specs.Passing.{WalkPassesFar}
use Rattle.reply_model.specs.declared.Command.{Command}
use Rattle.reply_model.specs.declared.Command.TheVariants.{Level, Dist, Path}
use Rattle.reply_model.specs.declared.Reply.{Reply}
use Rattle.reply_model.specs.declared.Reply.TheVariants.{Deep, Level as AtLevel, Dist as Apart, Path as Along}
use Rattle.reply_model.specs.Histories.{History, Exists, walk_of}
use Rattle.reply_model.specs.Ways.{end_type, way_between, way_along_name}
use Rattle.reply_model.specs.Replies.{PassesFar, TreePathPassesFar}
use Rattle.reply_model.specs.Replies.{level_told, dist_deep, dist_told, path_deep, path_told}
use Rattle.reply_model.specs.WalkReadings.{IsThePlace, walk_reading}
use Rattle.reply_laws.specs.Laws.{ReadingsAgree}
use Rattle.reply_laws.proofs.Alike.{EndsAreKnown, the_other_way, read_again}
use Rattle.reply_laws.proofs.Together.{readings_agree}
use Rattle.session_core.specs.Sessions.{SessionState, walker_at, IsSession, StandsFor, session_over_walks}
use Rattle.session_core.specs.Sessions.{IsDueOverWalks, IsDueOverTree}
use Rattle.session_core.proofs.Steps.{IsFarPath, IsNearPath, AreSpotsApart, IsAlongName}

-- the same way in the words of two crates
same_way : (s : ℕ) (name : List ℕ) → way_to s name ≡ way_along_name s name
same_way s [] = refl
same_way s (i ∷ name) = refl

module _ (kinds : List TileKind) (a : TreeAutomaton) (k : ℕ) (home before walk : List Letter) where
  -- walks that pass a far tile, in the words of two crates
  passes :
      WalkPassesFar kinds (k, 0) home before walk →
      PassesFar (walk_reading kinds a k) home before walk
  passes f = record {
    prefix = f.prefix;
    rest = f.rest;
    split = f.split;
    far = record { distance = f.distance; apart = f.apart; far = f.far };
  }

  passed :
      PassesFar (walk_reading kinds a k) home before walk →
      WalkPassesFar kinds (k, 0) home before walk
  passed f = record {
    prefix = f.prefix;
    rest = f.rest;
    split = f.split;
    distance = f.far.distance;
    apart = f.far.apart;
    far = f.far.far;
  }

module _ (s : SessionState) (sound : AreSound s.rules) (known : s.kind < length s.rules.kinds) where
  -- the two readings say the same, and walks lead to kinds of the tessellation
  pub readings : ReadingsAgree s.rules.kinds s.rules.automaton s.kind
  readings =
      readings_agree s.rules.kinds s.rules.automaton s.kind sound.valid sound.accepted known

  pub ends : EndsAreKnown s.rules.kinds s.kind
  ends u = kind_known s.rules.kinds s.rules.automaton s.kind sound.valid sound.accepted known u

module _ (s : SessionState) (is : IsSession s) (h : History) (stands : StandsFor s h) where
  one :
      (k : ℕ) → k < length s.rules.kinds → (u : List Letter) →
      HasOnePlace s.rules.kinds s.rules.automaton k u
  one k known u =
      walks_one_place s.rules.kinds s.rules.automaton k is.sound.valid is.sound.accepted known u

  placed :
      (w : ℕ) (p : TreeSpot) → walker_at s w ≡ Some p →
      IsPlace s.rules.kinds s.rules.automaton s.kind (walk_of h w) (position p)
  placed w p e = ((one s.kind is.known (walk_of h w)).reached (position p)).1 (stands.spots w p e)

  the_place :
      (w : ℕ) (p : TreeSpot) → walker_at s w ≡ Some p →
      IsThePlace s.rules.kinds s.rules.automaton s.kind (walk_of h w) (position p)
  the_place w p e = record {
    is_place = placed w p e;
    no_other = λ q g. (one s.kind is.known (walk_of h w)).one q (position p) g (placed w p e);
  }

  stands_after :
      (w : ℕ) (p : TreeSpot) → walker_at s w ≡ Some p → StandsAfter s.rules p (walk_of h w)
  stands_after w p e =
      subst (λ j. IsPlace s.rules.kinds s.rules.automaton j (walk_of h w) (position p))
      (sym (is.spots w p e).tree) (placed w p e)

  -- what is due over walks is due over the tree
  over_tree_too : {c : Command} {x : Reply} → IsDueOverWalks s h c x → IsDueOverTree s h c x
  over_tree_too d =
      read_again s.rules.kinds s.kind (ends s is.sound is.known)
      (the_other_way (readings s is.sound is.known)) h d

  pub level_due :
      (w : ℕ) (p : TreeSpot) → walker_at s w ≡ Some p → Exists h w →
      IsDueOverTree s h (Level w) (AtLevel (length p.name))
  level_due w p e there =
      over_tree_too
      (level_told w (length p.name) there
      (depth_distance s.rules.kinds s.rules.automaton s.kind is.sound.valid is.sound.accepted
      is.known (walk_of h w) (position p) (placed w p e)))

  module _
      (w v : ℕ) (p q : TreeSpot) (first : walker_at s w ≡ Some p) (second : walker_at s v ≡ Some q)
      (there : Exists h w) (also : Exists h v)
    where
      far_path :
          IsFarPath s.rules p q →
          TreePathPassesFar (session_over_walks s) s.kind (walk_of h w) (walk_of h v)
      far_path far = record {
        place = position q;
        placed = the_place v q second;
        passes =
            passes s.rules.kinds s.rules.automaton s.kind (walk_of h w) [] (word q.name)
            (subst (λ j. WalkPassesFar s.rules.kinds (j, 0) (walk_of h w) [] (word q.name))
            (is.spots w p first).tree (far (walk_of h w) (stands_after w p first)));
      }

      near_path :
          IsNearPath s.rules p q →
          TreePathPassesFar (session_over_walks s) s.kind (walk_of h w) (walk_of h v) → ⊥
      near_path near t =
          let same : t.place ≡ position q =
          (the_place v q second).no_other t.place t.placed.is_place in
          let far =
          passed s.rules.kinds s.rules.automaton s.kind (walk_of h w) [] (word q.name)
          (subst (λ (r : Position). PassesFar (session_over_walks s) (walk_of h w) [] (word r.name))
          same t.passes) in
          near (walk_of h w) (stands_after w p first)
          (subst (λ j. WalkPassesFar s.rules.kinds (j, 0) (walk_of h w) [] (word q.name))
          (sym (is.spots w p first).tree) far)

      pub far_due : IsFarPath s.rules p q → IsDueOverTree s h (Dist w v) Deep
      far_due far = over_tree_too (dist_deep w v there also (far_path far))

      pub far_path_due : IsFarPath s.rules p q → IsDueOverTree s h (Path w v) Deep
      far_path_due far = over_tree_too (path_deep w v there also (far_path far))

      pub apart_due :
          (n : ℕ) → IsNearPath s.rules p q → AreSpotsApart s.rules p q n →
          IsDueOverTree s h (Dist w v) (Apart n)
      apart_due n near d =
          let apart =
          subst (λ j. IsDistance s.rules.kinds (j, 0) (walk_of h w) (walk_of h v) n)
          (is.spots w p first).tree
          (d (walk_of h w) (walk_of h v) (stands_after w p first) (stands_after v q second)) in
          over_tree_too (dist_told w v n there also (near_path near) apart)

      pub along_due :
          (z : List Letter) → IsNearPath s.rules p q → IsAlongName s.rules p q z →
          IsDueOverTree s h (Path w v) (Along z)
      along_due z near told =
          let between =
          one (end_type s.rules.kinds s.kind (walk_of h w)).0
          (ends s is.sound is.known (walk_of h w))
          (way_between s.rules.kinds s.kind (walk_of h w) (walk_of h v)) in
          let (r, place) = between.some in
          let from =
          subst
          (λ j. IsPlaceFrom s.rules.kinds s.rules.automaton j (walk_of h w) (walk_of h v) r)
          (sym (is.spots w p first).tree) place in
          let way : z ≡ way_to (end_type s.rules.kinds s.kind (walk_of h w)).1 r.name =
          subst (λ j. z ≡ way_to (type_of s.rules.kinds (j, 0) (walk_of h w)).1 r.name)
          (is.spots w p first).tree
          (told (walk_of h w) (walk_of h v) r (stands_after w p first)
          (stands_after v q second) from) in
          let same : z ≡ way_along_name (end_type s.rules.kinds s.kind (walk_of h w)).1 r.name =
          way ∙ same_way (end_type s.rules.kinds s.kind (walk_of h w)).1 r.name in
          over_tree_too
          (subst (λ z. IsDueOverWalks s h (Path w v) (Along z)) (sym same)
          (path_told w v r there also (near_path near)
          (record { is_place = place; no_other = λ i g. between.one i r g place })))
