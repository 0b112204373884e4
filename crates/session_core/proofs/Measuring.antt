-- Rings that were counted, in the words of replies.
use Rattle.std.proofs.Common.{◌≡◌, ℕ, ◌<◌, ◌≤◌, ◌↔◌, ◌⊎◌, inl, inr, List, refl, ap, ◌∙◌, subst}
use Rattle.std.specs.Prelude.{Some, unwrap_or, Result, Ok, Err, IfOk, IsErrOf}
use Rattle.std.proofs.lemmas.Bool.{cases_lt}
use Rattle.tile_model.specs.Tessellations.{TileKind}
use Rattle.tree_model.specs.Automata.{TreeAutomaton}
use Rattle.tree_model.specs.Limits.{deepest, most_listed}
use Rattle.structure_check.specs.Rules.{TreeRules}
use Rattle.ring_listing.specs.Rings.{HasSize, IsTooBigRing, IsFirstTooBigRing, RingsAreCounted, KindTree}
use Rattle.ring_listing.specs.declared.fault.CountFault.{CountFault}
use Rattle.ring_listing.specs.declared.fault.CountFault.TheVariants.{Far as TooFar, TooBig as OneTooBig, Memory}
use Rattle.reply_model.specs.declared.Command.{Command}
use Rattle.reply_model.specs.declared.Command.TheVariants.{Ring, Count}
use Rattle.reply_model.specs.declared.Reply.{Reply}
use Rattle.reply_model.specs.declared.Reply.TheVariants.{Tiles, Count as Counted, Far, TooBig, TooMany}
use Rattle.reply_model.specs.Histories.{History}
use Rattle.reply_model.specs.Replies.{ring_far, ring_too_big, ring_too_many, ring_told}
use Rattle.reply_model.specs.Replies.{count_far, count_too_big, count_told}
use Rattle.reply_model.specs.Sizes.{IsTooBig, IsFirstTooBig, AreCounted}
use Rattle.reply_model.specs.TreeReadings.{RingHasNames, tree_reading}
use Rattle.session_core.specs.Sessions.{SessionState, IsSession, HasNumbers, session_over_tree, IsDueOverTree}
use Rattle.session_core.specs.Answered.{HasAnswered, refusal_of}
use Rattle.session_core.proofs.Steps.{measured}
use Rattle.session_core.proofs.Standing.{answered}

module _ (kinds : List TileKind) (a : TreeAutomaton) (k : ℕ) where
  -- the words of two crates for the sizes of rings
  names_told : (d n : ℕ) → HasSize kinds a k d n → RingHasNames kinds a k d n
  names_told d n h = record { names = h.names; ring = h.ring; count = h.count }

  size_told : (d n : ℕ) → RingHasNames kinds a k d n → HasSize kinds a k d n
  size_told d n h = record { names = h.names; ring = h.ring; count = h.count }

  is_big : (d : ℕ) → IsTooBigRing kinds a k d → IsTooBig (tree_reading kinds a k) d
  is_big d b = record { size = b.size; away = names_told d b.size b.has; big = b.big }

  was_big : (d : ℕ) → IsTooBig (tree_reading kinds a k) d → IsTooBigRing kinds a k d
  was_big d b = record { size = b.size; has = size_told d b.size b.away; big = b.big }

  is_first :
      (d q : ℕ) → IsFirstTooBigRing kinds a k d q → IsFirstTooBig (tree_reading kinds a k) d q
  is_first d q f = record {
    within = f.within;
    big = is_big q f.big;
    first = λ e lt b. f.first e lt (was_big e b);
  }

  are_counted :
      (d n : ℕ) → RingsAreCounted kinds a k d n → AreCounted (tree_reading kinds a k) d n
  are_counted d n c = record {
    none_big = λ e le b. c.none_big e le (was_big e b);
    away = names_told d n c.has;
  }

-- the faults of a count
the_reply : {x y : Reply} → Some x ≡ Some y → x ≡ y
the_reply {x} e = ap (λ o. unwrap_or o x) e

-- A session that counts the rings of its tree.
module _
    (s : SessionState) (is : IsSession s) (t : KindTree) (e : t.rules ≡ s.rules)
    (f : t.kind ≡ s.kind) (d : ℕ)
  where
    counted_too :
        (n : ℕ) → RingsAreCounted t.rules.kinds t.rules.automaton t.kind d n →
        AreCounted (session_over_tree s) d n
    counted_too n c =
        subst (λ j. AreCounted (tree_reading s.rules.kinds s.rules.automaton j) d n) f
        (subst (λ (r : TreeRules). AreCounted (tree_reading r.kinds r.automaton t.kind) d n) e
        (are_counted t.rules.kinds t.rules.automaton t.kind d n c))

    first_too :
        (q : ℕ) → IsFirstTooBigRing t.rules.kinds t.rules.automaton t.kind d q →
        IsFirstTooBig (session_over_tree s) d q
    first_too q b =
        subst (λ j. IsFirstTooBig (tree_reading s.rules.kinds s.rules.automaton j) d q) f
        (subst (λ (r : TreeRules). IsFirstTooBig (tree_reading r.kinds r.automaton t.kind) d q) e
        (is_first t.rules.kinds t.rules.automaton t.kind d q b))

    pub has_counted :
        (n : ℕ) → d ≤ deepest → RingsAreCounted t.rules.kinds t.rules.automaton t.kind d n →
        HasAnswered s (Count d) (Counted n) s
    has_counted n near c =
        answered s (Count d) (Counted n) s is tt
        (measured (Count d) (Counted n) (λ g. absurd (cc))
        (λ h. count_told d n near (counted_too n c)))

    pub has_listed :
        (n : ℕ) → d ≤ deepest → RingsAreCounted t.rules.kinds t.rules.automaton t.kind d n →
        n ≤ most_listed → HasAnswered s (Ring d) (Tiles d n) s
    has_listed n near c few =
        answered s (Ring d) (Tiles d n) s is tt
        (measured (Ring d) (Tiles d n) (λ g. absurd (cc))
        (λ h. ring_told d n near (counted_too n c) few))

    pub has_too_many :
        (n : ℕ) → d ≤ deepest → RingsAreCounted t.rules.kinds t.rules.automaton t.kind d n →
        most_listed < n → HasAnswered s (Ring d) (TooMany n) s
    has_too_many n near c many =
        answered s (Ring d) (TooMany n) s is tt
        (measured (Ring d) (TooMany n) (λ g. absurd (cc))
        (λ h. ring_too_many d n near (counted_too n c) many))

    -- a count with a fault other than want of memory
    module _
        (r : Result ℕ CountFault) (fault : CountFault) (err : r ≡ Err fault)
        (far : IsErrOf r TooFar ↔ (deepest < d))
        (big : (q : ℕ) → IsErrOf r (OneTooBig q) →
        IsFirstTooBigRing t.rules.kinds t.rules.automaton t.kind d q)
      where
        was_near : (q : ℕ) → fault ≡ OneTooBig q → (deepest < d) ⊎ (d ≤ deepest) → d ≤ deepest
        was_near q is_big (inl lt) = let is_far = far.1 lt in absurd (cc (err, is_big, is_far))
        was_near q is_big (inr le) = le

        refused :
            (c : Command) → HasNumbers c →
            ((h : History) → deepest < d → IsDueOverTree s h c Far) →
            ((h : History) (q : ℕ) → d ≤ deepest → IsFirstTooBig (session_over_tree s) d q →
            IsDueOverTree s h c (TooBig q)) → (g : CountFault) → fault ≡ g → (x : Reply) →
            refusal_of g ≡ Some x → HasAnswered s c x s
        refused c numbers too_far too_big TooFar same x told =
            subst (λ x. HasAnswered s c x s) (the_reply told)
            (answered s c Far s is numbers
            (measured c Far (λ g. absurd (cc)) (λ h. too_far h (far.0 (err ∙ ap Err same)))))
        refused c numbers too_far too_big (OneTooBig q) same x told =
            let near = was_near q same (cases_lt deepest d) in
            let first = first_too q (big q (err ∙ ap Err same)) in
            subst (λ x. HasAnswered s c x s) (the_reply told)
            (answered s c (TooBig q) s is numbers
            (measured c (TooBig q) (λ g. absurd (cc)) (λ h. too_big h q near first)))
        refused c numbers too_far too_big Memory same x told = absurd (cc)

        pub count_refused :
            (x : Reply) → refusal_of fault ≡ Some x → HasAnswered s (Count d) x s
        count_refused x told =
            refused (Count d) tt (λ h lt. count_far d lt)
            (λ h q near first. count_too_big d q near first) fault refl x told

        pub ring_refused : (x : Reply) → refusal_of fault ≡ Some x → HasAnswered s (Ring d) x s
        ring_refused x told =
            refused (Ring d) tt (λ h lt. ring_far d lt)
            (λ h q near first. ring_too_big d q near first) fault refl x told

-- what follows from what holds of an answer, if there is one
pub if_ok :
    {T E : Type 0} {P Q : T → Type 0} (r : Result T E) → ((x : T) → P x → Q x) → IfOk r P → IfOk r Q
if_ok (Ok x) f p = f x p
if_ok (Err y) f p = p
