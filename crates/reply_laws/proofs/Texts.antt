-- What is written where: behind one event more at the end of a history, and at the last moment.
use Rattle.std.proofs.Common.{◌≡◌, ℕ, ◌<◌, ◌≤◌, ◌⊎◌, inl, inr, List, [], ◌∷◌, ◌++◌, length, refl, sym, ap, ◌∙◌, subst, append_assoc, arith, length-append, ⊎_elim}
use Rattle.tile_model.specs.declared.Letter.{Letter}
use Rattle.reply_model.specs.declared.Command.{Command}
use Rattle.reply_model.specs.declared.Command.TheVariants.{Put}
use Rattle.reply_model.specs.declared.Reply.{Reply}
use Rattle.reply_model.specs.declared.Reply.TheVariants.{Done}
use Rattle.reply_model.specs.Histories.{History, walk_of}
use Rattle.reply_model.specs.Readings.{Reading}
use Rattle.reply_model.specs.Texts.{IsWritten, IsLastText, IsBlank}
use Rattle.reply_laws.proofs.Events.{Event, first_or, others, push_cases}

-- what a command writes
abbrev pub text_of : Command → List ℕ
text_of (Put w text) = text
text_of _ = []

none_behind : (before : History) (e : Event) (rest : History) → [] ≡ before ++ e ∷ rest → ⊥
none_behind [] e rest p = absurd (cc)
none_behind (f ∷ before) e rest p = absurd (cc)

-- what stands in a history behind as many events is one event
same_event :
    (b c : History) (e f : Event) (r s : History) → b ++ e ∷ r ≡ c ++ f ∷ s →
    length b ≡ length c → e ≡ f
same_event [] [] e f r s p l = ap (first_or e) p
same_event [] (x ∷ c) e f r s p l = absurd (omega (arith, l))
same_event (x ∷ b) [] e f r s p l = absurd (omega (arith, l))
same_event (x ∷ b) (y ∷ c) e f r s p l = same_event b c e f r s (ap others p) (omega (arith, l))

module _ (r : Reading) where
  -- the event, next behind the history, writes the text on the tile of u
  pub record Writes (h : History) (e : Event) (u : List Letter) (text : List ℕ) : Type 0 where
    pub walker : ℕ
    pub event : e ≡ (Put walker text, Done)
    pub there : r.AreTogether (walk_of h walker) u

  -- nothing is written in no history
  pub blank_at_first : (u : List Letter) → IsBlank r [] u
  blank_at_first u before text x = none_behind before (Put x.walker text, Done) x.rest x.split

  written_later :
      (h : History) (e : Event) (u : List Letter) (before : History) (text : List ℕ) →
      IsWritten r h u before text → IsWritten r (h ++ e ∷ []) u before text
  written_later h e u before text x = record {
    walker = x.walker;
    rest = x.rest ++ e ∷ [];
    split =
        ap (λ l. l ++ e ∷ []) x.split ∙
        append_assoc before ((Put x.walker text, Done) ∷ x.rest) (e ∷ []);
    there = x.there;
  }

  written_now :
      (h : History) (e : Event) (u : List Letter) (text : List ℕ) → Writes h e u text →
      IsWritten r (h ++ e ∷ []) u h text
  written_now h e u text w = record {
    walker = w.walker;
    rest = [];
    split = ap (λ f. h ++ f ∷ []) w.event;
    there = w.there;
  }

  written_cases :
      (h : History) (e : Event) (u : List Letter) (before : History) (text : List ℕ) →
      IsWritten r (h ++ e ∷ []) u before text →
      IsWritten r h u before text ⊎ ((before ≡ h) × Writes h e u text)
  written_cases h e u before text x =
      ⊎_elim
      (λ now. inr (
        sym now.0,
        record {
          walker = x.walker;
          event = now.1;
          there = subst (λ g. r.AreTogether (walk_of g x.walker) u) (sym now.0) x.there;
        },
      ))
      (λ earlier.
      inl (record { walker = x.walker; rest = earlier.0; split = earlier.1; there = x.there }))
      (push_cases h e before (Put x.walker text, Done) x.rest x.split)

  written_within :
      (h : History) (u : List Letter) (before : History) (text : List ℕ) →
      IsWritten r h u before text → length before < length h
  written_within h u before text x =
      let e : Event = (Put x.walker text, Done) in
      omega (arith, ap length x.split, length-append before (e ∷ x.rest))

  -- what is written now is the last text
  pub last_now :
      (h : History) (e : Event) (u : List Letter) (text : List ℕ) → Writes h e u text →
      IsLastText r (h ++ e ∷ []) u text
  last_now h e u text w = record {
    before = h;
    written = written_now h e u text w;
    last = λ moment other x.
        ⊎_elim (λ y. let lt = written_within h u moment other y in omega (arith, lt))
        (λ y. omega (arith, ap length y.0)) (written_cases h e u moment other x);
  }

  -- where nothing is written now, all stays
  module _
      (h : History) (e : Event) (u : List Letter)
      (nothing : (text : List ℕ) → Writes h e u text → ⊥)
    where
      written_before :
          (before : History) (text : List ℕ) → IsWritten r (h ++ e ∷ []) u before text →
          IsWritten r h u before text
      written_before before text x =
          ⊎_elim (λ y. y) (λ y. absurd (nothing text y.1)) (written_cases h e u before text x)

      pub last_stays : (text : List ℕ) → IsLastText r h u text → IsLastText r (h ++ e ∷ []) u text
      last_stays text l = record {
        before = l.before;
        written = written_later h e u l.before text l.written;
        last = λ moment other x. l.last moment other (written_before moment other x);
      }

      pub last_before : (text : List ℕ) → IsLastText r (h ++ e ∷ []) u text → IsLastText r h u text
      last_before text l = record {
        before = l.before;
        written = written_before l.before text l.written;
        last = λ moment other x. l.last moment other (written_later h e u moment other x);
      }

      pub blank_stays : IsBlank r h u → IsBlank r (h ++ e ∷ []) u
      blank_stays blank before text x = blank before text (written_before before text x)

      pub blank_before : IsBlank r (h ++ e ∷ []) u → IsBlank r h u
      blank_before blank before text x = blank before text (written_later h e u before text x)

  -- there is one last text
  pub one_last :
      (h : History) (u : List Letter) (text other : List ℕ) → IsLastText r h u text →
      IsLastText r h u other → text ≡ other
  one_last h u text other l m =
      let more = l.last m.before other m.written in
      let less = m.last l.before text l.written in
      let same =
      same_event l.before m.before (Put l.written.walker text, Done)
      (Put m.written.walker other, Done) l.written.rest m.written.rest
      (sym l.written.split ∙ m.written.split) (omega (arith, more, less)) in
      ap (λ (e : Event). text_of e.0) same
