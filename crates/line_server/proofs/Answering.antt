-- One line, answered by a session.
use Rattle.std.proofs.Common.{◌≡◌, ◌↔◌, ◌⊎◌, inl, inr, ℕ, ◌<◌, ◌≤◌, Bool, true, false, IsTrue, List, [], ◌∷◌, ◌++◌, length, refl, sym, ◌∙◌, subst, arith}
use Rattle.std.proofs.lemmas.Bool.{false≢true, cases_lt}
use Rattle.std.proofs.lemmas.List.{length-append, append-nil}
use Rattle.std.specs.Prelude.{Option, None, Some, Result, Ok, Err, OnOk, OnErr}
use Rattle.reply_model.specs.declared.Command.{Command}
use Rattle.reply_model.specs.declared.Command.TheVariants.{New, Go, At, Same, Level, Dist, Path}
use Rattle.reply_model.specs.declared.Command.TheVariants.{Put, Get, Ring, Count}
use Rattle.reply_model.specs.declared.Reply.{Reply}
use Rattle.command_text.specs.CommandLines.{IsSpelling, most_of_line}
use Rattle.command_text.specs.CommandLines.{Operands, one_walker, two_walkers, walker_and_walk, walker_and_text, one_distance}
use Rattle.command_text.specs.CommandLines.{AreTold, by_number, by_numbers, by_number_and_letters, by_number_and_text, by_distance}
use Rattle.command_text.specs.Replies.{reply_text}
use Rattle.session_core.specs.Sessions.{SessionState, HasNumbers, AreReadAlike}
use Rattle.session_core.specs.Answered.{HasAnswered}
use Rattle.reply_model.specs.Histories.{History, most_walkers}
use Rattle.reply_model.specs.declared.Reply.TheVariants.{Tiles}
use Rattle.line_server.specs.Answering.{AreBehind, listed, not_listed, name_lines}
use Rattle.line_server.specs.Outputs.{IsAnswered, replied}
use Rattle.line_server.specs.Outboxes.{HasSaid, HasBroken}
use Rattle.line_server.specs.Sessions.{answering_of, AnswersLine}
use Rattle.line_server.specs.Readers.{AreDropped, IsTextBehind, IsMeasured, HasAnsweredLine, AreNames, of_none, of_ring, HasReplied, HasFailed, nothing, partly}
use Rattle.line_server.proofs.Listing.{text_said}
use Rattle.line_server.proofs.Saying.{says_then, says_waiting, breaks_none, breaks_then}

-- what follows from what holds after Ok, and after Err
pub on_ok : {T E : Type 0} {P Q : Type 0} (r : Result T E) → (P → Q) → OnOk r P → OnOk r Q
on_ok (Ok x) f p = f p
on_ok (Err e) f p = p

pub on_err : {T E P : Type 0} (r : Result T E) → P → OnErr r P
on_err (Ok x) p = tt
on_err (Err e) p = p

pub then_err : {T E : Type 0} {P Q : Type 0} (r : Result T E) → (P → Q) → OnErr r P → OnErr r Q
then_err (Ok x) f p = p
then_err (Err e) f p = f p

-- bytes of no length
pub no_bytes : (bytes : List ℕ) → length bytes ≡ 0 → bytes ≡ []
no_bytes [] none = refl
no_bytes (byte ∷ bytes) none = absurd (omega (arith, none))

-- what a line tells a command are numbers of walkers
abbrev AreNumbers : Operands → Type 0
AreNumbers (one_walker w) = w < most_walkers
AreNumbers (two_walkers w v) = (w < most_walkers) × (v < most_walkers)
AreNumbers (walker_and_walk w walk) = w < most_walkers
AreNumbers (walker_and_text w text) = w < most_walkers
AreNumbers (one_distance d) = Unit {0}

are_numbers : {told : Operands} {words : List (List ℕ)} → AreTold told words → AreNumbers told
are_numbers (by_number w digits is) = is.below
are_numbers (by_numbers w v first second is too) = (is.below, too.below)
are_numbers (by_number_and_letters w walk digits is) = is.below
are_numbers (by_number_and_text w text digits is) = is.below
are_numbers (by_distance d digits is) = tt

pub numbers_told : (text : List ℕ) (c : Command) → IsSpelling text c → HasNumbers c
numbers_told text (New w) s = are_numbers s.told
numbers_told text (Go w walk) s = are_numbers s.told
numbers_told text (At w) s = are_numbers s.told
numbers_told text (Same w v) s = are_numbers s.told
numbers_told text (Level w) s = are_numbers s.told
numbers_told text (Dist w v) s = are_numbers s.told
numbers_told text (Path w v) s = are_numbers s.told
numbers_told text (Put w words) s = are_numbers s.told
numbers_told text (Get w) s = are_numbers s.told
numbers_told text (Ring d) s = are_numbers s.told
numbers_told text (Count d) s = are_numbers s.told

-- a session that stays as it is, and says this to the line
stays :
    (s : SessionState) (line text answer : List ℕ)
    → ((before : History) → IsAnswered (answering_of s) before line text answer before)
    → AnswersLine s s line text answer
stays s line text answer said =
    record { rules = refl; kind = refl; stands = λ before stands. (before, said before, stands) }

-- without a ring no names follow
no_names : (s : SessionState) {o : Option ℕ} (names : List (List ℕ)) → o ≡ None → AreNames s o names → names ≡ []
no_names s names is of_none = refl
no_names s names is (of_ring d listing ok ring) = absurd (cc is)

-- the names of the ring of a number are behind the reply that lists it, and none behind another
pub names_listed : (s : SessionState) (d size : ℕ) {o : Option ℕ} (names : List (List ℕ)) → o ≡ Some d → AreNames s o names → AreBehind s (Tiles d size) names
names_listed s d size names is of_none = absurd (cc is)
names_listed s d size names is (of_ring e listing ok ring) =
    let same : e ≡ d = cc is in
    subst (λ (n : ℕ). AreBehind s (Tiles n size) listing) same (listed e size listing ok ring)

pub names_unlisted : (s : SessionState) (x : Reply) {o : Option ℕ} (names : List (List ℕ)) → ((d size : ℕ) → x ≡ Tiles d size → ⊥) → o ≡ None → AreNames s o names → AreBehind s x names
names_unlisted s x names other is named =
    subst (λ (ns : List (List ℕ)). AreBehind s x ns) (sym (no_names s names is named)) (not_listed x other)

-- an answer that changes nothing
pub answers_so :
    (s : SessionState) (line text waiting front waiting' : List ℕ)
    → ((h : History) → IsAnswered (answering_of s) h line text front h)
    → waiting' ≡ waiting ++ front → HasAnsweredLine s line text waiting s waiting' None
answers_so s line text waiting front waiting' told e = record {
  front = front;
  waits = e;
  session = λ names named.
      let none = no_names s names refl named in
      subst (λ (ns : List (List ℕ)). AnswersLine s s line text (front ++ name_lines ns)) (sym none)
      (stays s line text (front ++ [])
      (λ h. subst (λ l. IsAnswered (answering_of s) h line text l h) (sym (append-nil front)) (told h)));
}

-- the session answered a command, and the line of its reply waits
pub answers_command :
    (old new : SessionState) (line text waiting waiting' : List ℕ) (c : Command) (x : Reply)
    (ring : Option ℕ) → length line ≤ most_of_line → IsSpelling text c → AreReadAlike old
    → AreReadAlike new → HasAnswered old c x new
    → ((names : List (List ℕ)) → AreNames new ring names → AreBehind new x names)
    → waiting' ≡ waiting ++ reply_text x → HasAnsweredLine old line text waiting new waiting' ring
answers_command old new line text waiting waiting' c x ring short spelt was is answered behind e = record {
  front = reply_text x;
  waits = e;
  session = λ names named. record {
    rules = answered.rules;
    kind = answered.kind;
    stands = λ h here.
        let before = (was.stands h).0 here in
        let due = (was.due h c x).1 (answered.due h before) in
        let said = text_said old new answered.rules answered.kind h c (behind names named) due in (
          h ++ (c, x) ∷ [],
          replied short c x (reply_text x ++ name_lines names) spelt due said,
          (is.stands (h ++ (c, x) ∷ [])).1 (answered.stands h before),
        );
  };
}

-- the ring that follows, as it is known now
pub now_named :
    (old new : SessionState) (line text waiting waiting' : List ℕ) (o p : Option ℕ) → o ≡ p
    → HasAnsweredLine old line text waiting new waiting' o
    → HasAnsweredLine old line text waiting new waiting' p
now_named old new line text waiting waiting' o p e a =
    subst (λ q. HasAnsweredLine old line text waiting new waiting' q) e a

-- An answer waits, and is passed on with the names that follow it.
module _
    (tells : Bool) (old new : SessionState) (line text taken waiting waiting' : List ℕ)
    (ring : Option ℕ) (a : HasAnsweredLine old line text waiting new waiting' ring)
    (names : List (List ℕ)) (named : AreNames new ring names)
  where
    abbrev answer : List ℕ
    answer = a.front ++ name_lines names

    pub passes :
        (taken' waiting'' : List ℕ)
        → HasSaid tells taken waiting' (name_lines names) taken' waiting''
        → HasReplied tells old line text taken waiting new taken' waiting''
    passes taken' waiting'' said = record {
      answer = answer;
      said =
          says_then tells taken waiting a.front taken waiting' (name_lines names) taken' waiting''
          (says_waiting tells taken waiting a.front waiting' a.waits) said;
      session = a.session names named;
    }

    pub breaks :
        (taken' : List ℕ) → HasBroken tells taken waiting' (name_lines names) taken'
        → HasFailed tells old line text taken waiting taken'
    breaks taken' broken =
        partly answer (λ h here. let it = (a.session names named).stands h here in (it.0, it.1))
        (breaks_then tells taken waiting a.front taken waiting' (name_lines names) taken'
        (says_waiting tells taken waiting a.front waiting' a.waits) broken)

-- nothing was answered, or written
pub fails_before :
    (tells : Bool) (s : SessionState) (line text taken waiting : List ℕ)
    → HasFailed tells s line text taken waiting taken
fails_before tells s line text taken waiting = nothing (breaks_none tells taken waiting)

-- a line whose beginning was dropped
pub lost_is_long :
    (dropped line : List ℕ) → most_of_line < length dropped
    → most_of_line < length (dropped ++ line)
lost_is_long dropped line long = rw (length-append dropped line) (omega (arith, long))

-- what is measured of the end of a line is measured of the line
pub measured :
    (is_long lost : Bool) (dropped text line whole : List ℕ) → AreDropped lost dropped
    → IsTrue is_long ↔ (most_of_line < length (dropped ++ line)) → IsTextBehind lost text whole
    → IsMeasured is_long text (dropped ++ line) whole
measured is_long lost dropped text line whole d long told = record {
  long = long.0;
  short = λ e. go e (cases_lt most_of_line (length (dropped ++ line)));
  same = λ e. told (kept e lost refl);
}
  where
    go :
        is_long ≡ false
        → (most_of_line < length (dropped ++ line)) ⊎ (length (dropped ++ line) ≤ most_of_line)
        → length (dropped ++ line) ≤ most_of_line
    go e (inl lt) = absurd (false≢true (sym e ∙ long.1 lt))
    go e (inr le) = le

    kept : is_long ≡ false → (b : Bool) → lost ≡ b → lost ≡ false
    kept e false f = f
    kept e true f = absurd (false≢true (sym e ∙ long.1 (lost_is_long dropped line (d.some f))))

-- a line of which nothing was dropped is as long as its end
pub kept_is_long :
    (lost b : Bool) (dropped line : List ℕ) → AreDropped lost dropped → lost ≡ false
    → IsTrue b ↔ (most_of_line < length line)
    → IsTrue b ↔ (most_of_line < length (dropped ++ line))
kept_is_long lost b dropped line d kept long =
    subst (λ l. IsTrue b ↔ (most_of_line < length (l ++ line))) (sym (d.none kept)) long
