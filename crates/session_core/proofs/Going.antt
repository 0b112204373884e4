-- What the calls of a session come to, by the spots that they look up and leave behind.
use Rattle.std.proofs.Common.{◌≡◌, ◌≢◌, ◌↔◌, ℕ, zero, suc, ◌<◌, ◌≤◌, ◌⊎◌, inl, inr, true, false, List, [], length, replicate, set, get_or, refl, sym, ap, ◌∙◌, subst, arith, true≢false}
use Rattle.std.specs.Prelude.{Option, None, Some, is_some, IsSome, MatchOption, Result, Ok, Err, IfOk, OnErr, IsErrOf}
use Rattle.std.proofs.lemmas.Bool.{false≢true, cases_lt}
use Rattle.std.proofs.lemmas.List.{get_or_default, set-get_or, length-replicate}
use Rattle.tile_model.specs.declared.Letter.{Letter}
use Rattle.tree_model.specs.Automata.{state_at}
use Rattle.tree_model.specs.Limits.{deepest}
use Rattle.tree_model.specs.Positions.{root}
use Rattle.structure_check.specs.Rules.{TreeRules, AreSound}
use Rattle.turn_rules.specs.Spots.{TreeSpot, IsSpot, IsAt, position, root_kind, tile_state}
use Rattle.step_engine.specs.Crossings.{WalksDeep, WalkLeadsTo}
use Rattle.step_engine.specs.declared.fault.StepFault.{StepFault}
use Rattle.step_engine.specs.declared.fault.StepFault.TheVariants.{Deep as TooDeep, Memory}
use Rattle.lazy_map.specs.declared.map.PutFault.{PutFault}
use Rattle.lazy_map.specs.declared.map.PutFault.TheVariants.{Long as TooLong}
use Rattle.reply_model.specs.declared.Command.{Command}
use Rattle.reply_model.specs.declared.Command.TheVariants.{New, Go, At, Put, Get}
use Rattle.reply_model.specs.declared.Reply.{Reply}
use Rattle.reply_model.specs.declared.Reply.TheVariants.{Done, At as AtPlace, NoWalker, Deep, Long}
use Rattle.reply_model.specs.Histories.{most_walkers}
use Rattle.lazy_map.specs.Texts.{Texts, text_under}
use Rattle.reply_model.specs.Texts.{longest_text}
use Rattle.session_core.specs.Sessions.{SessionState, walker_at, IsWalker, IsSession, IsKept, Stands}
use Rattle.session_core.specs.Answered.{HasAnswered}
use Rattle.reply_laws.proofs.Histories.{none_due}
use Rattle.reply_laws.proofs.Texts.{blank_at_first}
use Rattle.reply_model.specs.Readings.{Reading}
use Rattle.reply_model.specs.Replies.{IsReply}
use Rattle.session_core.proofs.Steps.{with_walker, with_texts, HasPut, told_text, made, go_nobody, stopped, gone, at_spot}
use Rattle.session_core.proofs.Steps.{put_nobody, put_long, put_written, get_told}
use Rattle.session_core.proofs.Depth.{has_gone}
use Rattle.session_core.proofs.Standing.{answered, put_session}

-- a look-up that gives a reference
pub some_there :
    {T : Type 0} (f : T → TreeSpot) (o : Option T) (r : Option TreeSpot) →
    MatchOption o (r ≡ None) (λ s. r ≡ Some (f s)) → is_some o ≡ true → IsSome r
some_there f None r m e = absurd (false≢true e)
some_there f (Some s) r m e = ap is_some m

pub none_there :
    {T : Type 0} (f : T → TreeSpot) (o : Option T) (r : Option TreeSpot) →
    MatchOption o (r ≡ None) (λ s. r ≡ Some (f s)) → is_some o ≡ false → r ≡ None
none_there f None r m e = m
none_there f (Some s) r m e = absurd (true≢false e)

-- the session with another entry for walker w
abbrev pub with_entry : SessionState → ℕ → Option TreeSpot → SessionState
with_entry s w o = record {
  rules = s.rules;
  kind = s.kind;
  walkers = set s.walkers w o;
  texts = s.texts;
}

abbrev with_list : SessionState → List (Option TreeSpot) → SessionState
with_list s l = record { rules = s.rules; kind = s.kind; walkers = l; texts = s.texts }

-- an entry that was read, and one that is written back
pub held :
    (s : SessionState) (w : ℕ) (o : Option TreeSpot) → IsSession s → w < most_walkers →
    o ≡ get_or s.walkers w o → walker_at s w ≡ o
held s w o is lt e =
    get_or_default s.walkers w None o (subst (λ n. w < n) (sym is.places) lt) ∙ sym e

pub put_back :
    (s : SessionState) (w : ℕ) (o r : Option TreeSpot) → o ≡ get_or s.walkers w o → o ≡ r →
    with_entry s w r ≡ s
put_back s w o r e f =
    let same : set s.walkers w r ≡ s.walkers =
    ap (λ q. set s.walkers w q) (sym f ∙ e) ∙ set-get_or s.walkers w o in
    ap (with_list s) same

-- the same answer of a session that is seen in another way
pub seen :
    (s old t new : SessionState) (c : Command) (x : Reply) → s ≡ old → t ≡ new →
    HasAnswered s c x t → HasAnswered old c x new
seen s old t new c x e f a = subst (λ u. HasAnswered u c x new) e (subst (HasAnswered s c x) f a)

module _ (s : SessionState) (is : IsSession s) (w : ℕ) (below : w < most_walkers) where
  -- a walker made at the root
  walker_made : (q : TreeSpot) → IsAt s.rules s.kind root q → IsWalker s.rules s.kind q
  walker_made q at = record {
    spot = at.spot;
    tree = at.tree;
    near = let e : length q.name ≡ 0 = ap (λ p. length p.name) at.stands in omega (arith, e);
  }

  pub has_made :
      (q : TreeSpot) → walker_at s w ≡ None → IsAt s.rules s.kind root q →
      HasAnswered s (New w) Done (with_walker s w q)
  has_made q none at = answered s (New w) Done (with_walker s w q) is below (made w q none at)

  pub made_session : (q : TreeSpot) → IsAt s.rules s.kind root q → IsSession (with_walker s w q)
  made_session q at = put_session s w q below is (walker_made q at)

  -- a walk of nobody, one that was stopped, and one that was gone
  pub nobody_goes : (u : List Letter) → walker_at s w ≡ None → HasAnswered s (Go w u) NoWalker s
  nobody_goes u none = answered s (Go w u) NoWalker s is below (go_nobody w u none)

  pub has_stopped :
      (u : List Letter) (p : TreeSpot) → walker_at s w ≡ Some p → WalksDeep s.rules p u deepest →
      HasAnswered s (Go w u) Deep s
  has_stopped u p some d = answered s (Go w u) Deep s is below (stopped w u p some d)

  pub has_moved :
      (u : List Letter) (p t : TreeSpot) → walker_at s w ≡ Some p → IsSpot s.rules t →
      root_kind s.rules t ≡ root_kind s.rules p → WalkLeadsTo s.rules p u (position t) →
      (WalksDeep s.rules p u deepest → ⊥) → HasAnswered s (Go w u) Done (with_walker s w t)
  has_moved u p t some spot tree leads near =
      answered s (Go w u) Done (with_walker s w t) is below
      (gone w u p t some (has_gone s p t u (is.spots w p some) spot tree leads near))

  pub moved_session :
      (u : List Letter) (p t : TreeSpot) → walker_at s w ≡ Some p → IsSpot s.rules t →
      root_kind s.rules t ≡ root_kind s.rules p → WalkLeadsTo s.rules p u (position t) →
      (WalksDeep s.rules p u deepest → ⊥) → IsSession (with_walker s w t)
  moved_session u p t some spot tree leads near =
      put_session s w t below is (has_gone s p t u (is.spots w p some) spot tree leads near).walker

  -- where the walker stands, told by the parts of its spot
  pub has_told :
      (p : TreeSpot) (r : TreeRules) (n : List ℕ) (i j : ℕ) → walker_at s w ≡ Some p → r ≡ s.rules →
      n ≡ p.name → i ≡ p.spin → j ≡ (state_at r.automaton (tile_state r p)).kind →
      HasAnswered s (At w) (AtPlace n i j) s
  has_told p r n i j some e f g k =
      let kind : j ≡ (state_at s.rules.automaton (tile_state s.rules p)).kind =
      k ∙ ap (λ (r : TreeRules). (state_at r.automaton (tile_state r p)).kind) e in
      let told : AtPlace n i j ≡ AtPlace p.name p.spin
      (state_at s.rules.automaton (tile_state s.rules p)).kind = ap (λ n. AtPlace n i j) f ∙ ap
      (λ i. AtPlace p.name i j) g ∙ ap (AtPlace p.name p.spin) kind in
      subst (λ x. HasAnswered s (At w) x s) (sym told)
      (answered s (At w) _ s is below (at_spot w p some))

-- the outcome of a walk
pub was_deep :
    (r : Result (Unit {0}) StepFault) (f : StepFault) → r ≡ Err f → f ≡ TooDeep → IsErrOf r TooDeep
was_deep r f e g = e ∙ ap Err g

pub was_not_deep :
    (r : Result (Unit {0}) StepFault) (x : Unit {0}) → r ≡ Ok x →
    IsErrOf r TooDeep ⊎ IsErrOf r Memory → ⊥
was_not_deep r x e (inl f) = absurd (cc)
was_not_deep r x e (inr f) = absurd (cc)

-- what stands after any fault of a walk
pub stayed :
    {P : Type 0} (r : Result (Unit {0}) StepFault) (f : StepFault) → r ≡ Err f → OnErr r P → P
stayed {P} r f e s = subst (λ (r : Result (Unit {0}) StepFault). OnErr r P) e s

-- the answer of a call that has one, and of one that has none
pub told :
    {E : Type 0} (old new : SessionState) (c : Command) (x : Reply) (r : Result Reply E) →
    r ≡ Ok x → HasAnswered old c x new → IfOk r (λ x. HasAnswered old c x new)
told {E} old new c x r e a =
    subst (λ (r : Result Reply E). IfOk r (λ x. HasAnswered old c x new)) (sym e) a

pub untold :
    {E : Type 0} (old new : SessionState) (c : Command) (r : Result Reply E) (e : E) → r ≡ Err e →
    IfOk r (λ x. HasAnswered old c x new)
untold {E} old new c r e f =
    subst (λ (r : Result Reply E). IfOk r (λ x. HasAnswered old c x new)) (sym f) tt

-- a session without walkers
abbrev nobody_here : Option TreeSpot
nobody_here = None

none_everywhere : (n w : ℕ) → get_or (replicate n nobody_here) w nobody_here ≡ nobody_here
none_everywhere zero w = refl
none_everywhere (suc n) zero = refl
none_everywhere (suc n) (suc w) = none_everywhere n w

no_walker :
    (s : SessionState) (w : ℕ) → s.walkers ≡ replicate most_walkers None → walker_at s w ≡ None
no_walker s w e = ap (λ l. get_or l w None) e ∙ none_everywhere most_walkers w

no_spot :
    (s : SessionState) (w : ℕ) (p : TreeSpot) → s.walkers ≡ replicate most_walkers None →
    walker_at s w ≡ Some p → ⊥
no_spot s w p e f = let g = sym (no_walker s w e) ∙ f in false≢true (ap is_some g)

pub empty_session :
    (s : SessionState) → AreSound s.rules → s.kind < length s.rules.kinds →
    s.walkers ≡ replicate most_walkers None → IsSession s
empty_session s sound known e = record {
  sound = sound;
  known = known;
  places = ap length e ∙ length-replicate most_walkers nobody_here;
  spots = λ w p f. absurd (no_spot s w p e f);
}

-- by each reading, it stands for the empty history
pub empty_stands :
    (r : Reading) (s : SessionState) → s.walkers ≡ replicate most_walkers None → s.texts ≡ [] →
    Stands r s []
empty_stands r s e blank = record {
  replies = none_due (IsReply s.rules.kinds s.kind r);
  walkers =
      λ w. (
        λ y. absurd (false≢true (sym (ap is_some (no_walker s w e)) ∙ y)),
        λ x. absurd
            (omega (arith, x.1)),
      );
  spots = λ w p f. absurd (no_spot s w p e f);
  texts = λ u p led.
      subst (λ texts. IsKept r [] u (text_under texts p.name)) (sym blank) (blank_at_first r u);
  names = λ name some. absurd
      (false≢true (subst (λ texts. IsSome (text_under texts name)) blank some));
}

-- the answer to a command that is known in another way
pub same_command :
    (old new : SessionState) (c d : Command) (x : Reply) → c ≡ d → HasAnswered old d x new →
    HasAnswered old c x new
same_command old new c d x e a = subst (λ c. HasAnswered old c x new) (sym e) a

pub same_answer :
    {E : Type 0} (old new : SessionState) (c d : Command) (r : Result Reply E) → c ≡ d →
    IfOk r (λ x. HasAnswered old d x new) → IfOk r (λ x. HasAnswered old c x new)
same_answer {E} old new c d r e a = subst (λ c. IfOk r (λ x. HasAnswered old c x new)) (sym e) a

-- what is told of the text on the tile of a walker
pub has_text :
    (s : SessionState) → IsSession s → (w : ℕ) → w < most_walkers → (p : TreeSpot) →
    walker_at s w ≡ Some p → (o : Option (List ℕ)) → text_under s.texts p.name ≡ o →
    HasAnswered s (Get w) (told_text o) s
has_text s is w below p some o e =
    subst (λ o. HasAnswered s (Get w) (told_text o) s) e
    (answered s (Get w) (told_text (text_under s.texts p.name)) s is below (get_told w p some))

-- a text that is written, and one that is refused
module _
    (s : SessionState) (is : IsSession s) (w : ℕ) (below : w < most_walkers) (text : List ℕ)
  where
    pub nobody_puts : walker_at s w ≡ None → HasAnswered s (Put w text) NoWalker s
    nobody_puts none = answered s (Put w text) NoWalker s is below (put_nobody w text none)

    pub has_put :
        (p : TreeSpot) (texts : Texts) → walker_at s w ≡ Some p → length text ≤ longest_text →
        HasPut s.texts p.name text texts → HasAnswered s (Put w text) Done (with_texts s texts)
    has_put p texts some short puts =
        answered s (Put w text) Done (with_texts s texts) is below
        (put_written w text p texts some short puts)

    pub has_refused :
        (p : TreeSpot) → walker_at s w ≡ Some p → longest_text < length text →
        HasAnswered s (Put w text) Long s
    has_refused p some long = answered s (Put w text) Long s is below (put_long w text p some long)

-- a session with other texts
pub texts_session : (s : SessionState) (texts : Texts) → IsSession s → IsSession (with_texts s texts)
texts_session s texts is =
    record { sound = is.sound; known = is.known; places = is.places; spots = is.spots }

-- what a look-up of the text under a name gives
pub text_seen :
    (s : SessionState) (texts : Texts) (name other : List ℕ) (r o : Option (List ℕ)) →
    texts ≡ s.texts → other ≡ name → r ≡ text_under texts other → r ≡ o →
    text_under s.texts name ≡ o
text_seen s texts name other r o e f g h =
    ap (text_under s.texts) (sym f) ∙ ap (λ l. text_under l other) (sym e) ∙ sym g ∙ h

-- the outcome of a writing
pub was_short :
    (r : Result (Unit {0}) PutFault) (x : Unit {0}) (text : List ℕ) → r ≡ Ok x →
    IsErrOf r TooLong ↔ (longest_text < length text) → length text ≤ longest_text
was_short r x text e long = go (cases_lt longest_text (length text))
  where
    go : (longest_text < length text) ⊎ (length text ≤ longest_text) → length text ≤ longest_text
    go (inl lt) = let f = long.1 lt in absurd (cc (e, f))
    go (inr le) = le

pub texts_stayed :
    (s : SessionState) (r : Result (Unit {0}) PutFault) (f : PutFault) (texts : Texts) →
    r ≡ Err f → OnErr r (texts ≡ s.texts) → with_texts s texts ≡ s
texts_stayed s r f texts e u =
    let same : texts ≡ s.texts =
    subst (λ (r : Result (Unit {0}) PutFault). OnErr r (texts ≡ s.texts)) e u in
    ap (with_texts s) same

pub puts_seen :
    (before after : Texts) (name other text bytes : List ℕ) → other ≡ name → bytes ≡ text →
    text_under after other ≡ Some bytes →
    ((n : List ℕ) → n ≢ other → text_under after n ≡ text_under before n) →
    HasPut before name text after
puts_seen before after name other text bytes e f put others = record {
  put = ap (text_under after) (sym e) ∙ put ∙ ap Some f;
  others = λ n differs. others n (λ same. differs (same ∙ e));
}
