-- What an outbox says, one thing after the other.
use Rattle.std.proofs.Common.{◌≡◌, ℕ, Bool, IsTrue, List, [], ◌++◌, refl, sym, ap, ◌∙◌, subst}
use Rattle.std.proofs.lemmas.List.{append_assoc, append-nil}
use Rattle.line_server.specs.Outboxes.{HasSaid, HasBroken}

-- nothing was said, and nothing was written of what waits
pub says_none :
    (tells : Bool) (taken waiting : List ℕ) → HasSaid tells taken waiting [] taken waiting
says_none tells taken waiting =
    record { sent = []; split = append-nil waiting; written = λ _. sym (append-nil taken) }

pub breaks_none : (tells : Bool) (taken waiting : List ℕ) → HasBroken tells taken waiting [] taken
breaks_none tells taken waiting = λ _. record {
  rest = waiting ++ [];
  sent = record { sent = []; split = refl; appended = sym (append-nil taken) };
}

-- what was said waits
pub says_waiting :
    (tells : Bool) (taken waiting bytes waiting' : List ℕ) → waiting' ≡ waiting ++ bytes
    → HasSaid tells taken waiting bytes taken waiting'
says_waiting tells taken waiting bytes waiting' e =
    record { sent = []; split = sym e; written = λ _. sym (append-nil taken) }

-- all that waits was written
pub says_all :
    (tells : Bool) (taken waiting taken' waiting' : List ℕ)
    → (IsTrue tells → taken' ≡ taken ++ waiting) → waiting' ≡ []
    → HasSaid tells taken waiting [] taken' waiting'
says_all tells taken waiting taken' waiting' w e =
    record { sent = waiting; split = ap (λ l. waiting ++ l) (sym e); written = w }

-- some bytes, and then more
pub says_then :
    (tells : Bool) (taken waiting bytes taken' waiting' more taken'' waiting'' : List ℕ)
    → HasSaid tells taken waiting bytes taken' waiting'
    → HasSaid tells taken' waiting' more taken'' waiting''
    → HasSaid tells taken waiting (bytes ++ more) taken'' waiting''
says_then tells taken waiting bytes taken' waiting' more taken'' waiting'' s t = record {
  sent = s.sent ++ t.sent;
  split =
      sym (append_assoc waiting bytes more)
      ∙ ap (λ l. l ++ more) s.split
      ∙ append_assoc s.sent waiting' more
      ∙ ap (λ l. s.sent ++ l) t.split
      ∙ sym (append_assoc s.sent t.sent waiting'');
  written =
      λ u. t.written u ∙ ap (λ l. l ++ t.sent) (s.written u) ∙ append_assoc taken s.sent t.sent;
}

-- some bytes, and then something failed
pub breaks_then :
    (tells : Bool) (taken waiting bytes taken' waiting' more taken'' : List ℕ)
    → HasSaid tells taken waiting bytes taken' waiting'
    → HasBroken tells taken' waiting' more taken''
    → HasBroken tells taken waiting (bytes ++ more) taken''
breaks_then tells taken waiting bytes taken' waiting' more taken'' s b = λ u.
    let p = b u in
    record {
      rest = p.rest;
      sent = record {
        sent = s.sent ++ p.sent.sent;
        split =
            sym (append_assoc waiting bytes more)
            ∙ ap (λ l. l ++ more) s.split
            ∙ append_assoc s.sent waiting' more
            ∙ ap (λ l. s.sent ++ l) p.sent.split
            ∙ sym (append_assoc s.sent p.sent.sent p.rest);
        appended =
            p.sent.appended
            ∙ ap (λ l. l ++ p.sent.sent) (s.written u)
            ∙ append_assoc taken s.sent p.sent.sent;
      };
    }

-- a prefix of what waited is one of what was to be said, too
pub breaks_early :
    (tells : Bool) (taken waiting bytes taken' : List ℕ) → HasBroken tells taken waiting [] taken'
    → HasBroken tells taken waiting bytes taken'
breaks_early tells taken waiting bytes taken' b = λ u.
    let p = b u in
    record {
      rest = p.rest ++ bytes;
      sent = record {
        sent = p.sent.sent;
        split =
            ap (λ l. l ++ bytes) (sym (append-nil waiting) ∙ p.sent.split)
            ∙ append_assoc p.sent.sent p.rest bytes;
        appended = p.sent.appended;
      };
    }

-- where all was written, what was said stands behind what was taken
pub all_said :
    (tells : Bool) (taken bytes taken' waiting' : List ℕ)
    → HasSaid tells taken [] bytes taken' waiting' → waiting' ≡ [] → IsTrue tells
    → taken' ≡ taken ++ bytes
all_said tells taken bytes taken' waiting' s e u =
    s.written u
    ∙ ap (λ l. taken ++ l) (sym (append-nil s.sent) ∙ ap (λ l. s.sent ++ l) (sym e) ∙ sym s.split)

-- a prefix of what is as much
pub breaks_same :
    (tells : Bool) (taken waiting bytes bytes' taken' : List ℕ) → bytes ≡ bytes'
    → HasBroken tells taken waiting bytes taken' → HasBroken tells taken waiting bytes' taken'
breaks_same tells taken waiting bytes bytes' taken' e b =
    subst (λ l. HasBroken tells taken waiting l taken') e b

pub says_same :
    (tells : Bool) (taken waiting bytes bytes' taken' waiting' : List ℕ) → bytes ≡ bytes'
    → HasSaid tells taken waiting bytes taken' waiting'
    → HasSaid tells taken waiting bytes' taken' waiting'
says_same tells taken waiting bytes bytes' taken' waiting' e s =
    subst (λ l. HasSaid tells taken waiting l taken' waiting') e s

-- something failed before anything was said
pub breaks_at_once :
    (tells : Bool) (taken waiting bytes : List ℕ) → HasBroken tells taken waiting bytes taken
breaks_at_once tells taken waiting bytes =
    breaks_early tells taken waiting bytes taken (breaks_none tells taken waiting)

-- a prefix of some bytes is one of more bytes
pub breaks_more :
    (tells : Bool) (taken waiting bytes more taken' : List ℕ)
    → HasBroken tells taken waiting bytes taken'
    → HasBroken tells taken waiting (bytes ++ more) taken'
breaks_more tells taken waiting bytes more taken' b = λ u.
    let p = b u in
    record {
      rest = p.rest ++ more;
      sent = record {
        sent = p.sent.sent;
        split =
            sym (append_assoc waiting bytes more)
            ∙ ap (λ l. l ++ more) p.sent.split
            ∙ append_assoc p.sent.sent p.rest more;
        appended = p.sent.appended;
      };
    }
