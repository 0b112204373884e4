-- What a command does to a session: the reply is the one that is due.
-- And the session stands for the longer history.
use Rattle.std.proofs.Common.{◌≡◌, ◌≢◌, ℕ, ◌<◌, ◌≤◌, ◌==◌, ◌↔◌, ◌⊎◌, inl, inr, true, false, Bool, List, [], ◌∷◌, ◌++◌, length, refl, sym, ap, ◌∙◌, subst, ⊎_elim, ne_eqb, eq-eqb, length-set, get_or-set_same, get_or-set_other}
use Rattle.std.specs.Prelude.{Option, None, Some, is_some, IsSome, unwrap_or}
use Rattle.std.specs.Str.{bytes_eq}
use Rattle.std.proofs.lemmas.Slice.Eq.{bytes_eq-Decides}
use Rattle.std.proofs.lemmas.Bool.{cases_eq, cond-true, cond-false, both_ways}
use Rattle.tile_model.specs.declared.Letter.{Letter}
use Rattle.tile_model.specs.Tessellations.{TileKind}
use Rattle.tile_model.specs.Walks.{type_of}
use Rattle.tree_model.specs.Automata.{state_at}
use Rattle.tree_model.specs.Names.{state_of}
use Rattle.tree_model.specs.Positions.{Position, root, Leads}
use Rattle.turn_rules.specs.Spots.{TreeSpot, position, tile_state}
use Rattle.tree_laws.proofs.Walking.{leads_append, leads_same}
use Rattle.reply_model.specs.declared.Command.{Command}
use Rattle.reply_model.specs.declared.Command.TheVariants.{New, Go, At, Same, Level, Dist, Path, Put, Get}
use Rattle.reply_model.specs.declared.Reply.{Reply}
use Rattle.reply_model.specs.declared.Reply.TheVariants.{Done, At as AtPlace, Yes, No, NoWalker, Taken, Deep, Long}
use Rattle.reply_model.specs.declared.Reply.TheVariants.{Level as AtLevel, Dist as Apart, Path as Along}
use Rattle.reply_model.specs.Histories.{History, most_walkers, Exists, letters_for, walk_of}
use Rattle.reply_model.specs.Readings.{Reading}
use Rattle.reply_model.specs.Replies.{new_taken, new_made, go_nobody, go_deep, go_gone, at_nobody, at_place, same_nobody, same_tile, other_tile}
use Rattle.reply_model.specs.Replies.{level_nobody, dist_nobody, path_nobody}
use Rattle.reply_model.specs.Replies.{put_nobody, put_long, put_written, get_nobody, get_text, get_nothing}
use Rattle.reply_model.specs.Texts.{longest_text}
use Rattle.reply_model.specs.TreeReadings.{LeadsTo, LeadToOneName}
use Rattle.reply_laws.specs.Laws.{SayTheSame}
use Rattle.reply_laws.proofs.Alike.{EndsAreKnown, the_other_way, last_alike, blank_alike, read_again}
use Rattle.reply_laws.proofs.Texts.{Writes, last_now, last_stays, blank_stays}
use Rattle.reply_laws.proofs.Events.{Event, walk_push, walk_stays, exists_push, exists_made, exists_before}
use Rattle.reply_laws.proofs.Histories.{unborn, due_push}
use Rattle.tree_laws.proofs.Together.{walks_one_place, state_kinds}
use Rattle.lazy_map.specs.Texts.{Texts, text_under}
use Rattle.session_core.specs.Sessions.{SessionState, walker_at, IsWalker, IsSession, HasNumbers, IsKept, IsTileName, Stands}
use Rattle.session_core.specs.Sessions.{session_over_walks, session_over_tree, StandsFor, IsDueOverTree, AreReadAlike}
use Rattle.session_core.specs.Answered.{HasAnswered}
use Rattle.session_core.proofs.Steps as steps
use Rattle.session_core.proofs.Steps.{Does, HasGone, HasPut, with_walker, with_texts, told_text}
use Rattle.session_core.proofs.Depth.{goes_deep, deep_goes}
use Rattle.session_core.proofs.Telling.{readings, ends, level_due, far_due, far_path_due, apart_due, along_due}

-- the event makes no walker v
abbrev MakesNot : Command → Reply → ℕ → Type 0
MakesNot c x v = ◌≡◌ {A = Event} (c, x) (New v, Done) → ⊥

the_spot : {s t : TreeSpot} → Some s ≡ Some t → s ≡ t
the_spot {s} e = ap (λ o. unwrap_or o s) e

abbrev number : Command → ℕ
number (New w) = w
number (Put w text) = w
number _ = 0

the_number : {w v : ℕ} → New w ≡ New v → w ≡ v
the_number f = ap number f

-- a reply other than `ok` adds no letters
no_letters : (v : ℕ) (c : Command) (x : Reply) → (x ≡ Done → ⊥) → letters_for v c x ≡ []
no_letters v (Go w u) Done n = absurd (n refl)
no_letters v _ _ n = refl

-- The event writes no text.
abbrev WritesNot : Command → Reply → Type 0
WritesNot c x = (v : ℕ) (text : List ℕ) → ◌≡◌ {A = Event} (c, x) (Put v text, Done) → ⊥

-- where nothing is written, what is kept stays
kept_stays :
    (r : Reading) (h : History) (c : Command) (x : Reply) (u : List Letter) →
    ((text : List ℕ) → Writes r h (c, x) u text → ⊥) → (o : Option (List ℕ)) → IsKept r h u o →
    IsKept r (h ++ (c, x) ∷ []) u o
kept_stays r h c x u nothing None k = blank_stays r h (c, x) u nothing k
kept_stays r h c x u nothing (Some text) k = last_stays r h (c, x) u nothing text k

kept_alike :
    {kinds : List TileKind} {r t : Reading} → SayTheSame kinds r t → (h : History)
    (u : List Letter) (o : Option (List ℕ)) → IsKept r h u o → IsKept t h u o
kept_alike same h u None k = blank_alike same h u k
kept_alike same h u (Some text) k = last_alike same h u text k

told_not_done : (o : Option (List ℕ)) → told_text o ≡ Done → ⊥
told_not_done None e = absurd (cc)
told_not_done (Some text) e = absurd (cc)

-- names are the same or not
same_name : (m n : List ℕ) → (m ≡ n) ⊎ (m ≢ n)
same_name m n = test (bytes_eq m n) (bytes_eq-Decides m n)
  where
    test : (b : Bool) → (b ≡ true → m ≡ n) × (m ≡ n → b ≡ true) → (m ≡ n) ⊎ (m ≢ n)
    test true d = inl (d.0 refl)
    test false d = inr (λ e. both_ways false refl (d.1 e))

module _ (s : SessionState) (is : IsSession s) (h : History) (stands : StandsFor s h) where
  abbrev Led : List Letter → TreeSpot → Type 0
  Led u p = LeadsTo s.rules.kinds s.rules.automaton s.kind u (position p)

  there : (w : ℕ) (p : TreeSpot) → walker_at s w ≡ Some p → Exists h w
  there w p e = (stands.walkers w).0 (ap is_some e)

  nobody : (w : ℕ) → walker_at s w ≡ None → Exists h w → ⊥
  nobody w e x = both_ways (is_some (walker_at s w)) (ap is_some e) ((stands.walkers w).1 x)

  same_exists :
      (c : Command) (x : Reply) (v : ℕ) → MakesNot c x v →
      IsSome (walker_at s v) ↔ Exists (h ++ (c, x) ∷ []) v
  same_exists c x v n = (
    λ y. exists_push h (c, x) v ((stands.walkers v).0 y),
    λ y. (stands.walkers v).1
        (exists_before h (c, x) v n y),
  )

  same_walk :
      (c : Command) (x : Reply) (v : ℕ) (p : TreeSpot) → letters_for v c x ≡ [] →
      walker_at s v ≡ Some p → Led (walk_of (h ++ (c, x) ∷ []) v) p
  same_walk c x v p e f = subst (λ u. Led u p) (sym (walk_stays h c x v e)) (stands.spots v p f)

  -- where the event writes nothing, the texts are kept
  same_texts :
      (c : Command) (x : Reply) → WritesNot c x → (u : List Letter) (p : Position) →
      LeadsTo s.rules.kinds s.rules.automaton s.kind u p →
      IsKept (session_over_tree s) (h ++ (c, x) ∷ []) u (text_under s.texts p.name)
  same_texts c x writes u p led =
      kept_stays (session_over_tree s) h c x u (λ text w. writes w.walker text w.event)
      (text_under s.texts p.name) (stands.texts u p led)

  -- a command with another reply than `ok` leaves all as it is
  idle :
      (c : Command) (x : Reply) → IsDueOverTree s h c x → (x ≡ Done → ⊥) →
      StandsFor s (h ++ (c, x) ∷ [])
  idle c x due n = record {
    replies = due_push (IsDueOverTree s) h c x stands.replies due;
    walkers = λ v. same_exists c x v (λ e. n (ap (λ (f : Event). f.1) e));
    spots = λ v p e. same_walk c x v p (no_letters v c x n) e;
    texts = same_texts c x (λ v text e. n (ap (λ (f : Event). f.1) e));
    names = stands.names;
  }

  put_same : (w : ℕ) (q : TreeSpot) → w < most_walkers → walker_at (with_walker s w q) w ≡ Some q
  put_same w q lt =
      get_or-set_same s.walkers w (Some q) None (subst (λ n. w < n) (sym is.places) lt)

  put_other :
      (w v : ℕ) (q : TreeSpot) → (w ≡ v → ⊥) → walker_at (with_walker s w q) v ≡ walker_at s v
  put_other w v q n = get_or-set_other s.walkers w v (Some q) None (λ e. n (sym e))

  -- a command that puts walker w to another spot
  moved :
      (c : Command) (x : Reply) (w : ℕ) (q : TreeSpot) → w < most_walkers → IsDueOverTree s h c x →
      Exists (h ++ (c, x) ∷ []) w → Led (walk_of (h ++ (c, x) ∷ []) w) q →
      ((v : ℕ) → (w ≡ v → ⊥) → letters_for v c x ≡ []) → ((v : ℕ) → (w ≡ v → ⊥) → MakesNot c x v) →
      WritesNot c x → StandsFor (with_walker s w q) (h ++ (c, x) ∷ [])
  moved c x w q below due exists led letters makes writes = record {
    replies = due_push (IsDueOverTree s) h c x stands.replies due;
    walkers =
        λ v. ⊎_elim (λ e. walker_here v e)
        (λ n. subst (λ o. IsSome o ↔ Exists (h ++ (c, x) ∷ []) v) (sym (put_other w v q n))
        (same_exists c x v (makes v n))) (cases_eq w v);
    spots =
        λ v p f. ⊎_elim (λ e. spot_here v p f e)
        (λ n. same_walk c x v p (letters v n) (sym (put_other w v q n) ∙ f)) (cases_eq w v);
    texts = same_texts c x writes;
    names = stands.names;
  }
    where
      walker_here :
          (v : ℕ) → w ≡ v → IsSome (walker_at (with_walker s w q) v) ↔ Exists (h ++ (c, x) ∷ []) v
      walker_here v e =
          subst (λ v. IsSome (walker_at (with_walker s w q) v) ↔ Exists (h ++ (c, x) ∷ []) v) e
          (λ _. exists, λ _. ap is_some (put_same w q below))

      spot_here :
          (v : ℕ) (p : TreeSpot) → walker_at (with_walker s w q) v ≡ Some p → w ≡ v →
          Led (walk_of (h ++ (c, x) ∷ []) v) p
      spot_here v p f e =
          let g : Some q ≡ Some p =
          sym (put_same w q below) ∙ subst (λ v. walker_at (with_walker s w q) v ≡ Some p)
          (sym e) f in
          subst (λ v. Led (walk_of (h ++ (c, x) ∷ []) v) p) e
          (subst (λ p. Led (walk_of (h ++ (c, x) ∷ []) w) p) (the_spot g) led)

  tiles :
      (w v : ℕ) (p q : TreeSpot) → walker_at s w ≡ Some p → walker_at s v ≡ Some q →
      p.name ≡ q.name →
      LeadToOneName s.rules.kinds s.rules.automaton s.kind (walk_of h w) (walk_of h v)
  tiles w v p q e f n = record {
    first = position p;
    second = position q;
    first_led = stands.spots w p e;
    second_led = stands.spots v q f;
    one_name = n;
  }

  one_end :
      (w : ℕ) (p : TreeSpot) (q : Position) → walker_at s w ≡ Some p →
      LeadsTo s.rules.kinds s.rules.automaton s.kind (walk_of h w) q → q ≡ position p
  one_end w p q e l =
      leads_same s.rules.kinds s.rules.automaton s.kind is.sound.valid is.sound.accepted is.known
      (walk_of h w) root q (position p) l (stands.spots w p e)

  names :
      (w v : ℕ) (p q : TreeSpot) → walker_at s w ≡ Some p → walker_at s v ≡ Some q →
      LeadToOneName s.rules.kinds s.rules.automaton s.kind (walk_of h w) (walk_of h v) →
      p.name ≡ q.name
  names w v p q e f t =
      sym (ap (λ (p : Position). p.name) (one_end w p t.first e t.first_led)) ∙ t.one_name ∙ ap
      (λ (p : Position). p.name) (one_end v q t.second f t.second_led)

  -- the kind that a reply tells is that of the state
  kind_told :
      (w : ℕ) (p : TreeSpot) → walker_at s w ≡ Some p →
      (type_of s.rules.kinds (s.kind, 0) (walk_of h w)).0 ≡
      (state_at s.rules.automaton (tile_state s.rules p)).kind
  kind_told w p e =
      let place =
      ((walks_one_place s.rules.kinds s.rules.automaton s.kind is.sound.valid
      is.sound.accepted is.known (walk_of h w)).reached (position p)).1
      (stands.spots w p e) in
      let kind =
      state_kinds s.rules.kinds s.rules.automaton s.kind is.sound.valid is.sound.accepted
      is.known (walk_of h w) (position p) place in
      sym kind ∙ sym
      (ap (λ k. (state_at s.rules.automaton (state_of s.rules.automaton k p.name)).kind)
      (is.spots w p e).tree)

  at_due :
      (w : ℕ) (p : TreeSpot) → walker_at s w ≡ Some p →
      IsDueOverTree s h (At w)
      (AtPlace p.name p.spin (state_at s.rules.automaton (tile_state s.rules p)).kind)
  at_due w p e =
      subst (λ i. IsDueOverTree s h (At w) (AtPlace p.name p.spin i)) (kind_told w p e)
      (at_place w (position p) (there w p e) (stands.spots w p e))

  go_due :
      (w : ℕ) (u : List Letter) (p q : TreeSpot) → walker_at s w ≡ Some p → HasGone s p q u →
      IsDueOverTree s h (Go w u) Done
  go_due w u p q e g =
      go_gone w u (there w p e)
      (λ d. g.near
      (deep_goes s.rules s.kind p (is.spots w p e) is.sound.valid is.sound.accepted is.known
      h w u (stands.spots w p e) d))

  go_led :
      (w : ℕ) (u : List Letter) (p q : TreeSpot) → walker_at s w ≡ Some p → HasGone s p q u →
      Led (walk_of (h ++ (Go w u, Done) ∷ []) w) q
  go_led w u p q e g =
      let on =
      subst (λ j. Leads s.rules.kinds s.rules.automaton j (position p) u (position q))
      (is.spots w p e).tree g.leads in
      let letters : letters_for w (Go w u) Done ≡ u = cond-true (w == w) u [] (eq-eqb w w refl) in
      let walk : walk_of (h ++ (Go w u, Done) ∷ []) w ≡ walk_of h w ++ u =
      walk_push h (Go w u) Done w ∙ ap (λ l. walk_of h w ++ l) letters in
      subst (λ l. Led l q) (sym walk)
      (leads_append s.rules.kinds s.rules.automaton s.kind (walk_of h w) u root (position p)
      (position q) (stands.spots w p e) on)

  new_led :
      (w : ℕ) (q : TreeSpot) → walker_at s w ≡ None → position q ≡ root →
      Led (walk_of (h ++ (New w, Done) ∷ []) w) q
  new_led w q e at =
      let none : walk_of h w ≡ [] =
      unborn s.rules.kinds s.kind (session_over_tree s) h w stands.replies (nobody w e) in
      subst (λ l. Led l q) (sym (walk_stays h (New w) Done w refl ∙ none)) (sym at)

  abbrev Reads : Reading
  Reads = session_over_tree s

  -- two walks that lead to one name are together
  named :
      (u w : List Letter) (p q : Position) →
      LeadsTo s.rules.kinds s.rules.automaton s.kind u p →
      LeadsTo s.rules.kinds s.rules.automaton s.kind w q → p.name ≡ q.name → Reads.AreTogether u w
  named u w p q l m e =
      record { first = p; second = q; first_led = l; second_led = m; one_name = e }

  -- a text that is written on the tile of a spot
  module _
      (w : ℕ) (text : List ℕ) (p : TreeSpot) (texts : Texts) (at : walker_at s w ≡ Some p)
      (puts : HasPut s.texts p.name text texts)
    where
      -- on its tile, the text is the last
      written_here :
          (u : List Letter) (q : Position) →
          LeadsTo s.rules.kinds s.rules.automaton s.kind u q → q.name ≡ p.name →
          IsKept Reads (h ++ (Put w text, Done) ∷ []) u (text_under texts q.name)
      written_here u q led e =
          let there = named (walk_of h w) u (position p) q (stands.spots w p at) led (sym e) in
          let now : Writes Reads h (Put w text, Done) u text =
          record { walker = w; event = refl; there = there } in
          subst (IsKept Reads (h ++ (Put w text, Done) ∷ []) u)
          (sym (ap (text_under texts) e ∙ puts.put))
          (last_now Reads h (Put w text, Done) u text now)

      -- on other tiles, nothing is written
      written_elsewhere :
          (u : List Letter) (q : Position) →
          LeadsTo s.rules.kinds s.rules.automaton s.kind u q → q.name ≢ p.name →
          IsKept Reads (h ++ (Put w text, Done) ∷ []) u (text_under texts q.name)
      written_elsewhere u q led n =
          subst (IsKept Reads (h ++ (Put w text, Done) ∷ []) u) (sym (puts.others q.name n))
          (kept_stays Reads h (Put w text) Done u nothing (text_under s.texts q.name)
          (stands.texts u q led))
        where
          one_walker : (v : ℕ) (other : List ℕ) → Put w text ≡ Put v other → w ≡ v
          one_walker v other e = ap number e

          nothing : (other : List ℕ) → Writes Reads h (Put w text, Done) u other → ⊥
          nothing other x =
              let same = one_walker x.walker other (ap (λ (e : Event). e.0) x.event) in
              let t : LeadToOneName s.rules.kinds s.rules.automaton s.kind (walk_of h w) u =
              subst (λ v. Reads.AreTogether (walk_of h v) u) (sym same) x.there in
              let first = one_end w p t.first at t.first_led in
              let second =
              leads_same s.rules.kinds s.rules.automaton s.kind is.sound.valid is.sound.accepted
              is.known u root t.second q t.second_led led in
              n (sym (ap (λ (i : Position). i.name) second) ∙ sym t.one_name ∙
              ap (λ (i : Position). i.name) first)

      written :
          length text ≤ longest_text → StandsFor (with_texts s texts) (h ++ (Put w text, Done) ∷ [])
      written short = record {
        replies =
            due_push (IsDueOverTree s) h (Put w text) Done stands.replies
            (put_written w text (there w p at) short);
        walkers = λ v. same_exists (Put w text) Done v (λ e.
            let no : Put w text ≡ New v = ap (λ (f : Event). f.0) e in absurd (cc));
        spots = λ v q f. same_walk (Put w text) Done v q refl f;
        texts = λ u q led. ⊎_elim (written_here u q led) (written_elsewhere u q led)
            (same_name q.name p.name);
        names = λ name some. ⊎_elim name_here (name_elsewhere name some) (same_name p.name name);
      }
        where
          name_here : {name : List ℕ} → p.name ≡ name → IsTileName Reads s.kind name
          name_here e = record {
            walk = walk_of h w;
            place = position p;
            placed = stands.spots w p at;
            named = e;
          }

          name_elsewhere :
              (name : List ℕ) → IsSome (text_under texts name) → p.name ≢ name →
              IsTileName Reads s.kind name
          name_elsewhere name some n =
              stands.names name (subst IsSome (puts.others name (λ e. n (sym e))) some)

  get_due :
      (w : ℕ) (p : TreeSpot) → walker_at s w ≡ Some p →
      IsDueOverTree s h (Get w) (told_text (text_under s.texts p.name))
  get_due w p e = go (text_under s.texts p.name) (stands.texts (walk_of h w) (position p) (stands.spots w p e))
    where
      go :
          (o : Option (List ℕ)) → IsKept Reads h (walk_of h w) o →
          IsDueOverTree s h (Get w) (told_text o)
      go None k = get_nothing w (there w p e) k
      go (Some text) k = get_text w text (there w p e) k

  -- the reply is due
  pub does_due : {c : Command} {x : Reply} {t : SessionState} → Does s c x t → IsDueOverTree s h c x
  does_due (steps.taken w e) = new_taken w ((stands.walkers w).0 e)
  does_due (steps.made w p e at) = new_made w (nobody w e)
  does_due (steps.go_nobody w u e) = go_nobody w u (nobody w e)
  does_due (steps.stopped w u p e d) =
      go_deep w u (there w p e)
      (goes_deep s.rules s.kind p (is.spots w p e) h w u (stands.spots w p e) d)
  does_due (steps.gone w u p q e g) = go_due w u p q e g
  does_due (steps.at_nobody w e) = at_nobody w (nobody w e)
  does_due (steps.at_spot w p e) = at_due w p e
  does_due (steps.same_nobody w v e) =
      same_nobody w v (⊎_elim (λ e. inl (nobody w e)) (λ e. inr (nobody v e)) e)
  does_due (steps.one_tile w v p q e f n) =
      same_tile w v (there w p e) (there v q f) (tiles w v p q e f n)
  does_due (steps.two_tiles w v p q e f n) =
      other_tile w v (there w p e) (there v q f) (λ t. n (names w v p q e f t))
  does_due (steps.level_nobody w e) = level_nobody w (nobody w e)
  does_due (steps.level_spot w p e) = level_due s is h stands w p e (there w p e)
  does_due (steps.dist_nobody w v e) =
      dist_nobody w v (⊎_elim (λ e. inl (nobody w e)) (λ e. inr (nobody v e)) e)
  does_due (steps.dist_far w v p q e f d) =
      far_due s is h stands w v p q e f (there w p e) (there v q f) d
  does_due (steps.dist_spots w v n p q e f near d) =
      apart_due s is h stands w v p q e f (there w p e) (there v q f) n near d
  does_due (steps.path_nobody w v e) =
      path_nobody w v (⊎_elim (λ e. inl (nobody w e)) (λ e. inr (nobody v e)) e)
  does_due (steps.path_far w v p q e f d) =
      far_path_due s is h stands w v p q e f (there w p e) (there v q f) d
  does_due (steps.path_spots w v z p q e f near d) =
      along_due s is h stands w v p q e f (there w p e) (there v q f) z near d
  does_due (steps.put_nobody w text e) = put_nobody w text (nobody w e)
  does_due (steps.put_long w text p e l) = put_long w text (there w p e) l
  does_due (steps.put_written w text p texts e l puts) = put_written w text (there w p e) l
  does_due (steps.get_nobody w e) = get_nobody w (nobody w e)
  does_due (steps.get_told w p e) = get_due w p e
  does_due (steps.measured c x n due) = due h

  -- and the session stands for what has come
  pub does_stand :
      {c : Command} {x : Reply} {t : SessionState} → HasNumbers c → Does s c x t →
      StandsFor t (h ++ (c, x) ∷ [])
  does_stand lt (steps.made w p e at) =
      moved (New w) Done w p lt (does_due (steps.made w p e at)) (exists_made h w)
      (new_led w p e at.stands) (λ v n. refl)
      (λ v n f. n (the_number (ap (λ (e : Event). e.0) f)))
      (λ v text f. let no : New w ≡ Put v text = ap (λ (e : Event). e.0) f in absurd (cc))
  does_stand lt (steps.gone w u p q e g) =
      moved (Go w u) Done w q lt (does_due (steps.gone w u p q e g))
      (exists_push h (Go w u, Done) w (there w p e)) (go_led w u p q e g)
      (λ v n. cond-false (w == v) u [] (ne_eqb w v n))
      (λ v n f. let no : Go w u ≡ New v = ap (λ (e : Event). e.0) f in absurd (cc))
      (λ v text f. let no : Go w u ≡ Put v text = ap (λ (e : Event). e.0) f in absurd (cc))
  does_stand lt (steps.put_written w text p texts e l puts) = written w text p texts e puts l
  does_stand lt (steps.get_told w p e) =
      idle (Get w) (told_text (text_under s.texts p.name)) (get_due w p e)
      (told_not_done (text_under s.texts p.name))
  does_stand lt (steps.measured c x n due) = idle c x (due h) n
  does_stand lt (steps.taken w e) =
      idle (New w) Taken (does_due (steps.taken w e)) (λ f. absurd (cc))
  does_stand lt (steps.go_nobody w u e) =
      idle (Go w u) NoWalker (does_due (steps.go_nobody w u e)) (λ f. absurd (cc))
  does_stand lt (steps.stopped w u p e d) =
      idle (Go w u) Deep (does_due (steps.stopped w u p e d)) (λ f. absurd (cc))
  does_stand lt (steps.at_nobody w e) =
      idle (At w) NoWalker (does_due (steps.at_nobody w e)) (λ f. absurd (cc))
  does_stand lt (steps.at_spot w p e) =
      idle (At w) (AtPlace p.name p.spin (state_at s.rules.automaton (tile_state s.rules p)).kind)
      (does_due (steps.at_spot w p e)) (λ f. absurd (cc))
  does_stand lt (steps.same_nobody w v e) =
      idle (Same w v) NoWalker (does_due (steps.same_nobody w v e)) (λ f. absurd (cc))
  does_stand lt (steps.one_tile w v p q e f n) =
      idle (Same w v) Yes (does_due (steps.one_tile w v p q e f n)) (λ f. absurd (cc))
  does_stand lt (steps.two_tiles w v p q e f n) =
      idle (Same w v) No (does_due (steps.two_tiles w v p q e f n)) (λ f. absurd (cc))
  does_stand lt (steps.level_nobody w e) =
      idle (Level w) NoWalker (does_due (steps.level_nobody w e)) (λ f. absurd (cc))
  does_stand lt (steps.level_spot w p e) =
      idle (Level w) (AtLevel (length p.name)) (does_due (steps.level_spot w p e)) (λ f. absurd (cc))
  does_stand lt (steps.dist_nobody w v e) =
      idle (Dist w v) NoWalker (does_due (steps.dist_nobody w v e)) (λ f. absurd (cc))
  does_stand lt (steps.dist_far w v p q e f d) =
      idle (Dist w v) Deep (does_due (steps.dist_far w v p q e f d)) (λ f. absurd (cc))
  does_stand lt (steps.dist_spots w v n p q e f near d) =
      idle (Dist w v) (Apart n) (does_due (steps.dist_spots w v n p q e f near d))
      (λ f. absurd (cc))
  does_stand lt (steps.path_nobody w v e) =
      idle (Path w v) NoWalker (does_due (steps.path_nobody w v e)) (λ f. absurd (cc))
  does_stand lt (steps.path_far w v p q e f d) =
      idle (Path w v) Deep (does_due (steps.path_far w v p q e f d)) (λ f. absurd (cc))
  does_stand lt (steps.path_spots w v z p q e f near d) =
      idle (Path w v) (Along z) (does_due (steps.path_spots w v z p q e f near d))
      (λ f. absurd (cc))
  does_stand lt (steps.put_nobody w text e) =
      idle (Put w text) NoWalker (does_due (steps.put_nobody w text e)) (λ f. absurd (cc))
  does_stand lt (steps.put_long w text p e l) =
      idle (Put w text) Long (does_due (steps.put_long w text p e l)) (λ f. absurd (cc))
  does_stand lt (steps.get_nobody w e) =
      idle (Get w) NoWalker (does_due (steps.get_nobody w e)) (λ f. absurd (cc))

-- a session with another spot of walker w
pub put_session :
    (s : SessionState) (w : ℕ) (q : TreeSpot) → w < most_walkers → IsSession s →
    IsWalker s.rules s.kind q → IsSession (with_walker s w q)
put_session s w q below is walker = record {
  sound = is.sound;
  known = is.known;
  places = length-set s.walkers w (Some q) ∙ is.places;
  spots =
      λ v p f. ⊎_elim (λ e. here v p f e)
      (λ n. is.spots v p
      (sym (get_or-set_other s.walkers w v (Some q) None (λ e. n (sym e))) ∙ f))
      (cases_eq w v);
}
  where
    here :
        (v : ℕ) (p : TreeSpot) → walker_at (with_walker s w q) v ≡ Some p → w ≡ v →
        IsWalker s.rules s.kind p
    here v p f e =
        let same : walker_at (with_walker s w q) w ≡ Some q =
        get_or-set_same s.walkers w (Some q) None (subst (λ n. w < n) (sym is.places) below) in
        let g : Some q ≡ Some p =
        sym same ∙ subst (λ v. walker_at (with_walker s w q) v ≡ Some p) (sym e) f in
        subst (IsWalker s.rules s.kind) (the_spot g) walker

does_keep :
    {s t : SessionState} {c : Command} {x : Reply} → Does s c x t →
    (t.rules ≡ s.rules) × (t.kind ≡ s.kind)
does_keep (steps.taken w e) = (refl, refl)
does_keep (steps.made w p e at) = (refl, refl)
does_keep (steps.go_nobody w u e) = (refl, refl)
does_keep (steps.stopped w u p e d) = (refl, refl)
does_keep (steps.gone w u p q e g) = (refl, refl)
does_keep (steps.at_nobody w e) = (refl, refl)
does_keep (steps.at_spot w p e) = (refl, refl)
does_keep (steps.same_nobody w v e) = (refl, refl)
does_keep (steps.one_tile w v p q e f n) = (refl, refl)
does_keep (steps.two_tiles w v p q e f n) = (refl, refl)
does_keep (steps.level_nobody w e) = (refl, refl)
does_keep (steps.level_spot w p e) = (refl, refl)
does_keep (steps.dist_nobody w v e) = (refl, refl)
does_keep (steps.dist_far w v p q e f d) = (refl, refl)
does_keep (steps.dist_spots w v n p q e f near d) = (refl, refl)
does_keep (steps.path_nobody w v e) = (refl, refl)
does_keep (steps.path_far w v p q e f d) = (refl, refl)
does_keep (steps.path_spots w v z p q e f near d) = (refl, refl)
does_keep (steps.put_nobody w text e) = (refl, refl)
does_keep (steps.put_long w text p e l) = (refl, refl)
does_keep (steps.put_written w text p texts e l puts) = (refl, refl)
does_keep (steps.get_nobody w e) = (refl, refl)
does_keep (steps.get_told w p e) = (refl, refl)
does_keep (steps.measured c x n due) = (refl, refl)

-- a session stands for the same histories in two readings that say the same
stands_again :
    (r t : Reading) (s : SessionState) → EndsAreKnown s.rules.kinds s.kind →
    SayTheSame s.rules.kinds r t → (h : History) → Stands r s h → Stands t s h
stands_again r t s known same h st = record {
  replies =
      λ before rest c x e. read_again s.rules.kinds s.kind known same before
      (st.replies before rest c x e);
  walkers = st.walkers;
  spots = λ w p e. (same.places s.kind (known []) (walk_of h w) (position p)).0 (st.spots w p e);
  texts = λ u p led.
      kept_alike same h u (text_under s.texts p.name)
      (st.texts u p ((same.places s.kind (known []) u p).1 led));
  names = λ name some.
      let at = st.names name some in
      record {
        walk = at.walk;
        place = at.place;
        placed = (same.places s.kind (known []) at.walk at.place).0 at.placed;
        named = at.named;
      };
}

-- what walks say of a session is what the tree says
pub read_alike : (s : SessionState) → IsSession s → AreReadAlike s
read_alike s is = record {
  stands = λ h. (
    stands_again over_walks over_tree s known back h,
    stands_again over_tree over_walks s known same h,
  );
  due = λ h c x. (
    read_again s.rules.kinds s.kind known back h,
    read_again s.rules.kinds s.kind known same h,
  );
}
  where
    over_walks : Reading
    over_walks = session_over_walks s

    over_tree : Reading
    over_tree = session_over_tree s

    known : EndsAreKnown s.rules.kinds s.kind
    known = ends s is.sound is.known

    same : SayTheSame s.rules.kinds (session_over_tree s) (session_over_walks s)
    same = readings s is.sound is.known

    back : SayTheSame s.rules.kinds (session_over_walks s) (session_over_tree s)
    back = the_other_way (readings s is.sound is.known)

pub answered :
    (s : SessionState) (c : Command) (x : Reply) (t : SessionState) → IsSession s → HasNumbers c →
    Does s c x t → HasAnswered s c x t
answered s c x t is lt d = record {
  due = λ h stands. does_due s is h stands d;
  stands = λ h stands. does_stand s is h stands lt d;
  rules = (does_keep d).0;
  kind = (does_keep d).1;
}
