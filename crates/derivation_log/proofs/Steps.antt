-- A pen that goes by a letter, and by a walk.
use Rattle.std.proofs.Common.{◌≡◌, ◌≢◌, ℕ, ◌+◌, ◌<◌, ◌≤◌, ◌⊎◌, inl, inr, List, [], ◌∷◌, ◌++◌, length, take, drop, slice_index_or, refl, sym, ap, ◌∙◌, subst, arith, append_assoc, append-nil, take_all, take-append-drop}
use Rattle.std.proofs.lemmas.Bool.{cases_eq}
use Rattle.std.proofs.lemmas.List.{take_more, drop_more}
use Rattle.tile_model.specs.declared.Letter.{Letter}
use Rattle.tile_model.specs.declared.Letter.TheVariants.{L, R, X}
use Rattle.tile_model.specs.Relation.{Change, Changes, Lead, left_and_right, there_and_back}
use Rattle.tile_model.proofs.Relations.{lead_append, lead_behind}
use Rattle.structure_check.specs.Rules.{TreeRules, AreSound}
use Rattle.tree_model.specs.Contours.{Opens, Closes}
use Rattle.tree_model.specs.Names.{word}
use Rattle.tree_model.specs.Positions.{Position, IsPosition, root, turn_left, turn_right, hop, mark, rule_of, MatchesLeftwards, LiesAcross, in_tree, from_left, from_right, Moves, Leads}
use Rattle.tree_model.specs.Places.{position_word}
use Rattle.tree_model.proofs.Positions.{left_right, right_position}
use Rattle.tree_laws.proofs.Closure.{across_same, across_back, across_position}
use Rattle.tree_laws.proofs.Walking.{leads_append, leads_same}
use Rattle.tree_laws.proofs.Places.{leads_place}
use Rattle.tree_laws.proofs.Levels.{level}
use Rattle.spot_laws.specs.Spots.{IsSpot, IsAt}
use Rattle.step_engine.specs.Crossings.{IsAcross, CrossesDeep}
use Rattle.log_laws.specs.Logs.{inserted, deleted, turn_log, across_log, crossing_log}
use Rattle.log_laws.proofs.TreeWords.{left_leads}
use Rattle.log_laws.proofs.Letters.{delete_behind, turns_left, hops}
use Rattle.log_laws.proofs.Logged.{crossings_are_logged}
use Rattle.derivation_log.specs.Drafts.{IsWritten, IsWrittenBack}
use Rattle.derivation_log.specs.Passing.{PassesFar}
use Rattle.tree_model.specs.Limits.{deepest}
use Rattle.derivation_log.specs.Pens.{at, home, open_log, right_log, HasWritten, HasTurnedLeft, HasTurnedRight, HasHopped, HasRounded, HasCrossed, HasStepped}
use Rattle.derivation_log.specs.declared.pen.Pen.{Pen}
use Rattle.derivation_log.proofs.Drafts.{taken_back}
use Rattle.derivation_log.proofs.Pens.{turn_over, turn_within, settled}

module _ (r : TreeRules) (sound : AreSound r) (p p' : Pen) (h : IsSpot r p.place) where
  abbrev K : ℕ
  K = home r p

  abbrev Goes : List Change → List Letter → List Letter → Type 0
  Goes = Lead r.kinds (K, 0)

  -- what was written leads on
  stepped : (x : Letter) (changes : List Change) → HasWritten r p (at p') changes p' → Moves r.kinds r.automaton K x (at p) (at p') → ((rest : List Letter) → Goes changes (position_word (at p) ++ x ∷ rest) (position_word (at p') ++ rest)) → HasStepped r p x p'
  stepped x changes w moves leads = record {
    place = w.place;
    moves = moves;
    leads = λ u rest l. w.log r.kinds (K, 0) u (position_word (at p') ++ rest) (lead_append r.kinds (K, 0) p.log changes u (position_word (at p) ++ x ∷ rest) (position_word (at p') ++ rest) l (leads rest));
  }

  pub stepped_left : HasTurnedLeft r p p' → HasStepped r p L p'
  stepped_left w =
      stepped L (turn_log r.kinds r.automaton K (at p)) (settled r p p' (turn_left r.kinds r.automaton K (at p)) (turn_log r.kinds r.automaton K (at p)) w) (sym w.place.stands)
      (λ rest. subst (λ z. Goes (turn_log r.kinds r.automaton K (at p)) (position_word (at p) ++ L ∷ rest) (position_word z ++ rest)) (sym w.place.stands) (turns_left r.kinds r.automaton K sound.valid sound.accepted h.known (at p) rest h.there))

  -- the full turn that a turn to the left would delete is inserted
  opened : (q : Position) → q ≡ turn_right r.kinds r.automaton K (at p) → Goes (open_log (at p)) (position_word (at p)) (position_word q ++ L ∷ [])
  opened q e = go (cases_eq p.place.spin 0)
    where
      there : IsPosition r.kinds r.automaton K q
      there = subst (IsPosition r.kinds r.automaton K) (sym e) (right_position r.kinds r.automaton K (at p) h.there)

      back : turn_left r.kinds r.automaton K q ≡ at p
      back = ap (turn_left r.kinds r.automaton K) e ∙ left_right r.kinds r.automaton K (at p) h.there

      name : length (word q.name) ≡ length (word p.place.name)
      name = ap (λ (z : Position). length (word z.name)) e

      left : Goes (turn_log r.kinds r.automaton K q) (position_word q ++ L ∷ []) (position_word (at p))
      left = subst (λ z. Goes (turn_log r.kinds r.automaton K q) (position_word q ++ L ∷ []) (position_word z)) back (left_leads r.kinds r.automaton K sound.valid sound.accepted h.known q there)

      first : p.place.spin ≡ 0 → open_log (at p) ≡ inserted (length (word p.place.name)) 4 ∷ []
      first z = grind (arith, z)

      inner : p.place.spin ≢ 0 → open_log (at p) ≡ []
      inner z = grind (arith, z)

      go : (p.place.spin ≡ 0) ⊎ (p.place.spin ≢ 0) → Goes (open_log (at p)) (position_word (at p)) (position_word q ++ L ∷ [])
      go (inl z) =
          let side = ap (λ (y : Position). y.side) back ∙ z in
          let log = turn_over r.kinds r.automaton K q there side in
          let l = subst (λ c. Goes c (position_word q ++ L ∷ []) (position_word (at p))) log left in
          let change : Changes r.kinds (K, 0) (deleted (length (word q.name)) 4) (position_word q ++ L ∷ []) (position_word (at p)) = subst (λ w. Changes r.kinds (K, 0) (deleted (length (word q.name)) 4) (position_word q ++ L ∷ []) w) l.2 l.1 in
          let turned = taken_back r.kinds (K, 0) (deleted (length (word q.name)) 4) (position_word q ++ L ∷ []) (position_word (at p)) change in
          let whole : Goes (inserted (length (word q.name)) 4 ∷ []) (position_word (at p)) (position_word q ++ L ∷ []) = (position_word q ++ L ∷ [], turned, refl) in
          subst (λ c. Goes c (position_word (at p)) (position_word q ++ L ∷ [])) (ap (λ n. inserted n 4 ∷ []) name ∙ sym (first z)) whole
      go (inr z) =
          let side : (turn_left r.kinds r.automaton K q).side ≢ 0 = λ s. z (sym (ap (λ (y : Position). y.side) back) ∙ s) in
          let log = turn_within r.kinds r.automaton K q there side in
          let l : position_word q ++ L ∷ [] ≡ position_word (at p) = subst (λ c. Goes c (position_word q ++ L ∷ []) (position_word (at p))) log left in
          subst (λ c. Goes c (position_word (at p)) (position_word q ++ L ∷ [])) (sym (inner z)) (sym l)

  pub stepped_right : HasTurnedRight r p p' → HasStepped r p R p'
  stepped_right w =
      stepped R (right_log (at p) (at p')) (record { place = (settled r p p' (turn_right r.kinds r.automaton K (at p)) (right_log (at p) (turn_right r.kinds r.automaton K (at p))) w).place; log = subst (λ z. IsWritten p.log (right_log (at p) z) p'.log) (sym w.place.stands) w.log }) (sym w.place.stands) (λ rest.
      let q = at p' in
      let wide = lead_behind r.kinds (K, 0) (open_log (at p)) (position_word (at p)) (position_word q ++ L ∷ []) (R ∷ rest) (opened q w.place.stands) in
      let on = subst (λ z. Goes (open_log (at p)) (position_word (at p) ++ R ∷ rest) z) (append_assoc (position_word q) (L ∷ []) (R ∷ rest)) wide in
      lead_append r.kinds (K, 0) (open_log (at p)) (deleted (length (position_word q)) 2 ∷ []) (position_word (at p) ++ R ∷ rest) (position_word q ++ (L ∷ R ∷ rest)) (position_word q ++ rest) on (delete_behind r.kinds (K, 0) (position_word q) (L ∷ R ∷ []) rest 2 left_and_right))

  pub crossed_tree : HasHopped r p p' → HasCrossed r p p'
  crossed_tree hopped =
      let w = hopped.written in
      stepped X (across_log (rule_of r.kinds r.automaton K (at p)) (hop r.kinds r.automaton K (at p))) (settled r p p' (hop r.kinds r.automaton K (at p)) (across_log (rule_of r.kinds r.automaton K (at p)) (hop r.kinds r.automaton K (at p))) w) (in_tree hopped.tree (sym w.place.stands))
      (λ rest. subst (λ z. Goes (across_log (rule_of r.kinds r.automaton K (at p)) (hop r.kinds r.automaton K (at p))) (position_word (at p) ++ X ∷ rest) (position_word z ++ rest)) (sym w.place.stands) (hops r.kinds r.automaton K sound.valid sound.accepted h.known (at p) rest h.there hopped.tree))

  pub crossed_left : HasRounded r p p' → HasCrossed r p p'
  crossed_left w =
      stepped X (crossing_log r.kinds r.automaton K w.matched) w.written (from_left w.matched)
      (λ rest. crossings_are_logged r.kinds r.automaton K sound.valid sound.accepted h.known (at p) (at p') h.there w.matched rest)

  -- what lies across a Right side is matched with it
  right_match : (q : Position) → mark r.kinds r.automaton K (at p) ≡ Closes → LiesAcross r.kinds r.automaton K (at p) q → MatchesLeftwards r.kinds r.automaton K q (at p)
  right_match q c (in_tree t e) = absurd (cc)
  right_match q c (from_left m) = let o = m.opens in absurd (cc)
  right_match q c (from_right g m) = m

  pub across_opens : (q : Position) → mark r.kinds r.automaton K (at p) ≡ Closes → LiesAcross r.kinds r.automaton K (at p) q → mark r.kinds r.automaton K q ≡ Opens
  across_opens q c x = (right_match q c x).opens

  -- From a Right side: the pen f went the other way, from what lies across to f', with nothing written before.
  pub crossed_right : (f f' : Pen) (back : List Change) (n : ℕ) → IsSpot r p'.place → home r p' ≡ K → IsAcross r p.place (at p') → f.place ≡ p'.place → f.log ≡ [] → HasRounded r f f' → IsWrittenBack p.log f'.log back → n ≡ length (position_word (at p')) → IsWritten back (deleted n 1 ∷ []) p'.log → HasCrossed r p p'
  crossed_right f f' back n spot tree across same none rounded turned e log = record {
    place = record { spot = spot; tree = tree; stands = refl };
    moves = across;
    leads = λ u rest l.
        let q = at p' in
        let forth = subst (λ w. Goes f'.log (position_word q ++ (X ∷ X ∷ rest)) (position_word w ++ X ∷ rest)) arrives (forwards (X ∷ rest)) in
        let now = turned r.kinds (K, 0) u (position_word q ++ (X ∷ X ∷ rest)) (position_word (at p) ++ X ∷ rest) l forth in
        let last = subst (λ m. Goes (deleted m 1 ∷ []) (position_word q ++ (X ∷ X ∷ rest)) (position_word q ++ rest)) (sym e) (delete_behind r.kinds (K, 0) (position_word q) (X ∷ X ∷ []) rest 1 there_and_back) in
        log r.kinds (K, 0) u (position_word q ++ rest) (lead_append r.kinds (K, 0) back (deleted n 1 ∷ []) u (position_word q ++ (X ∷ X ∷ rest)) (position_word q ++ rest) now last);
  }
    where
      start : at f ≡ at p'
      start = ap (λ s. at (record { place = s; log = f.log })) same

      kind : home r f ≡ K
      kind = ap (λ s. home r (record { place = s; log = f.log })) same ∙ tree

      there : IsPosition r.kinds r.automaton K (at p')
      there = across_position r.kinds r.automaton K sound.valid sound.accepted h.known (at p) (at p') h.there across

      over : LiesAcross r.kinds r.automaton K (at p') (at f')
      over = subst (λ z. LiesAcross r.kinds r.automaton K z (at f')) start (subst (λ k. LiesAcross r.kinds r.automaton k (at f) (at f')) kind (from_left rounded.matched))

      arrives : at f' ≡ at p
      arrives = across_same r.kinds r.automaton K sound.valid sound.accepted h.known (at p') (at f') (at p) over (across_back r.kinds r.automaton K sound.valid sound.accepted h.known (at p) (at p') h.there across)

      forwards : (rest : List Letter) → Goes f'.log (position_word (at p') ++ X ∷ rest) (position_word (at f') ++ rest)
      forwards rest =
          let known = subst (λ k. k < length r.kinds) (sym kind) h.known in
          let begins = subst (λ k. IsPosition r.kinds r.automaton k (at f)) (sym kind) (subst (IsPosition r.kinds r.automaton K) (sym start) there) in
          let lead = crossings_are_logged r.kinds r.automaton (home r f) sound.valid sound.accepted known (at f) (at f') begins rounded.matched rest in
          let wrote = subst (λ l. IsWritten l (crossing_log r.kinds r.automaton (home r f) rounded.matched) f'.log) none rounded.written.log in
          let all = wrote r.kinds (home r f, 0) (position_word (at f) ++ X ∷ rest) (position_word (at f') ++ rest) lead in
          subst (λ z. Goes f'.log (position_word z ++ X ∷ rest) (position_word (at f') ++ rest)) start (subst (λ k. Lead r.kinds (k, 0) f'.log (position_word (at f) ++ X ∷ rest) (position_word (at f') ++ rest)) kind all)

-- The pen, which began at the root with nothing written, has followed these letters.
pub record Following (r : TreeRules) (k : ℕ) (gone : List Letter) (p : Pen) : Type 0 where
  pub spot : IsSpot r p.place
  pub tree : home r p ≡ k
  pub leads : Leads r.kinds r.automaton k root gone (at p)
  pub log : (rest : List Letter) → Lead r.kinds (k, 0) p.log (gone ++ rest) (position_word (at p) ++ rest)

module _ (r : TreeRules) (sound : AreSound r) (k : ℕ) (known : k < length r.kinds) where
  pub following_start : (p : Pen) → IsAt r k root p.place → p.log ≡ [] → Following r k [] p
  following_start p h none = record {
    spot = h.spot;
    tree = h.tree;
    leads = sym h.stands;
    log = λ rest. subst (λ l. Lead r.kinds (k, 0) l rest (position_word (at p) ++ rest)) (sym none) (ap (λ z. position_word z ++ rest) (sym h.stands));
  }

  following_more : (gone : List Letter) (x : Letter) (p p' : Pen) → Following r k gone p → HasStepped r p x p' → Following r k (gone ++ x ∷ []) p'
  following_more gone x p p' f s =
      let moves = subst (λ j. Moves r.kinds r.automaton j x (at p) (at p')) f.tree s.moves in
      record {
        spot = s.place.spot;
        tree = s.place.tree ∙ f.tree;
        leads = leads_append r.kinds r.automaton k gone (x ∷ []) root (at p) (at p') f.leads (at p', moves, refl);
        log = λ rest.
            let l = subst (λ j. Lead r.kinds (j, 0) p.log (gone ++ x ∷ rest) (position_word (at p) ++ x ∷ rest)) (sym f.tree) (f.log (x ∷ rest)) in
            let m = subst (λ j. Lead r.kinds (j, 0) p'.log (gone ++ x ∷ rest) (position_word (at p') ++ rest)) f.tree (s.leads (gone ++ x ∷ rest) rest l) in
            subst (λ w. Lead r.kinds (k, 0) p'.log w (position_word (at p') ++ rest)) (sym (append_assoc gone (x ∷ []) rest)) m;
      }

  pub following_on : (w : List Letter) (i : ℕ) (x : Letter) (p p' : Pen) → i < length w → Following r k (take i w) p → HasStepped r p (slice_index_or w i x) p' → Following r k (take (i + 1) w) p'
  following_on w i x p p' l f s = subst (λ u. Following r k u p') (sym (take_more w i x l)) (following_more (take i w) (slice_index_or w i x) p p' f s)

  -- the next crossing arrives too far away
  pub following_far : (w : List Letter) (i : ℕ) (x : Letter) (p : Pen) → i < length w → Following r k (take i w) p → slice_index_or w i x ≡ X → CrossesDeep r p.place deepest → PassesFar r.kinds k w
  following_far w i x p l f e d =
      let split : w ≡ take i w ++ X ∷ drop (i + 1) w = sym (take-append-drop i w) ∙ ap (λ m. take i w ++ m) (drop_more w i x l ∙ ap (λ y. y ∷ drop (i + 1) w) e) in
      let across = subst (λ j. LiesAcross r.kinds r.automaton j (at p) d.there) f.tree d.across in
      let leads = leads_append r.kinds r.automaton k (take i w) (X ∷ []) root (at p) d.there f.leads (d.there, across, refl) in
      record {
        prefix = take i w ++ X ∷ [];
        rest = drop (i + 1) w;
        split = split ∙ sym (append_assoc (take i w) (X ∷ []) (drop (i + 1) w));
        distance = length d.there.name;
        apart = level r.kinds r.automaton k sound.valid sound.accepted known (take i w ++ X ∷ []) d.there (leads_place r.kinds r.automaton k sound.valid sound.accepted known (take i w ++ X ∷ []) d.there leads);
        far = d.deep;
      }

  -- the whole walk is followed
  pub following_whole : (w items : List Letter) (i : ℕ) (pen : Pen) → length items ≤ i → items ≡ w → Following r k (take i items) pen → (p : Position) → Leads r.kinds r.automaton k root w p → Lead r.kinds (k, 0) pen.log w (position_word p)
  following_whole w items i pen end e f p leads =
      let all = subst (λ u. Following r k u pen) (take_all i items end ∙ e) f in
      let same = leads_same r.kinds r.automaton k sound.valid sound.accepted known w root (at pen) p all.leads leads in
      let log = subst (λ u. Lead r.kinds (k, 0) pen.log u (position_word (at pen) ++ [])) (append-nil w) (all.log []) in
      subst (λ u. Lead r.kinds (k, 0) pen.log w u) (append-nil (position_word (at pen)) ∙ ap position_word same) log
