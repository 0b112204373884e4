-- What each ending means.
use Rattle.std.proofs.Common.{◌≡◌, ℕ, ◌+◌, ◌<◌, ◌≤◌, Bool, IsTrue, List, [], ◌∷◌, ◌++◌, length, refl, sym, ap, ◌∙◌, subst, arith}
use Rattle.std.proofs.lemmas.List.{append_assoc, append-nil, length-append}
use Rattle.way_io.specs.Pieces.{AppendsPrefix}
use Rattle.session_core.specs.Sessions.{SessionState, StandsForWalks}
use Rattle.line_server.specs.declared.writing.Stop.{Stop}
use Rattle.line_server.specs.declared.writing.Stop.TheVariants.{Write, Memory as NoMemory}
use Rattle.line_server.specs.declared.stream.Ending.{Ending}
use Rattle.line_server.specs.declared.stream.Ending.TheVariants.{Done, ReadFault, InputTooLong}
use Rattle.line_server.specs.Lines.{most_of_stream}
use Rattle.reply_model.specs.Histories.{History}
use Rattle.line_server.specs.Outputs.{IsOutput, of_lines, of_all}
use Rattle.line_server.specs.Sessions.{Continues, answering_of}
use Rattle.line_server.specs.Endings.{GivesInOrder, IsServed, IsCutOff, IsOverrun, IsBegun}
use Rattle.line_server.specs.Serving.{EndsAs, ends_done, ends_unread, ends_over, ends_stopped, ending_of}

not_done : (stop : Stop) → ending_of stop ≡ Done → ⊥
not_done Write e = absurd (cc)
not_done NoMemory e = absurd (cc)

not_unread : (stop : Stop) → ending_of stop ≡ ReadFault → ⊥
not_unread Write e = absurd (cc)
not_unread NoMemory e = absurd (cc)

not_over : (stop : Stop) → ending_of stop ≡ InputTooLong → ⊥
not_over Write e = absurd (cc)
not_over NoMemory e = absurd (cc)

-- a list that is not empty has a length
some_length : (more : List ℕ) → (more ≡ [] → ⊥) → 1 ≤ length more
some_length [] some = absurd (some refl)
some_length (x ∷ more) some = omega arith

module _ (gives takes : Bool) (old : SessionState) (left taken : List ℕ) (new : SessionState) (left' taken' : List ℕ) where
  abbrev Ends : Ending → Type 0
  Ends result = EndsAs gives takes old left taken new left' taken' result

  pub ended :
      (result : Ending) → Ends result → IsTrue gives → result ≡ Done
      → (left' ≡ []) × (length left ≤ most_of_stream)
  ended _ (ends_done bytes out given few session written) t e =
      ((given t).1, subst (λ l. length l ≤ most_of_stream) (sym (given t).0) few)
  ended _ (ends_unread bytes out given few session written) t e = absurd (cc)
  ended _ (ends_over bytes more out given full some session written) t e = absurd (cc)
  ended _ (ends_stopped stop bytes out given front written) t e = absurd (not_done stop e)

  pub overrun :
      (result : Ending) → Ends result → IsTrue gives → result ≡ InputTooLong
      → most_of_stream < length left
  overrun _ (ends_done bytes out given few session written) t e = absurd (cc)
  overrun _ (ends_unread bytes out given few session written) t e = absurd (cc)
  overrun _ (ends_over bytes more out given full some session written) t e =
      let size : length left ≡ length bytes + (length more + length left') =
      ap length (given t)
      ∙ length-append bytes (more ++ left')
      ∙ ap (λ n. length bytes + n) (length-append more left') in
      let far = some_length more some in
      omega (arith, size, full, far)
  overrun _ (ends_stopped stop bytes out given front written) t e = absurd (not_over stop e)

  pub in_order : (result : Ending) → Ends result → IsTrue gives → GivesInOrder left left'
  in_order _ (ends_done bytes out given few session written) t =
      record { given = bytes; split = (given t).0 ∙ sym (append-nil bytes) ∙ ap (λ l. bytes ++ l) (sym (given t).1) }
  in_order _ (ends_unread bytes out given few session written) t =
      record { given = bytes; split = given t }
  in_order _ (ends_over bytes more out given full some session written) t =
      record { given = bytes ++ more; split = given t ∙ sym (append_assoc bytes more left') }
  in_order _ (ends_stopped stop bytes out given front written) t =
      record { given = bytes; split = given t }

  pub done :
      (result : Ending) → Ends result → IsTrue gives → IsTrue takes → result ≡ Done
      → Continues old new
      (λ before after. IsServed (answering_of old) before left left' taken taken' after)
  done _ (ends_done bytes out given few session written) t u e = record {
    rules = session.rules;
    kind = session.kind;
    stands = λ before here.
        let it = session.stands before here in
        let same : bytes ≡ left = sym (given t).0 in
        (it.0, record { read = (given t).1; within = subst (λ l. length l ≤ most_of_stream) same few; out = out; output = subst (λ l. IsOutput (answering_of old) before l out it.0) same it.1; written = written u }, it.2);
  }
  done _ (ends_unread bytes out given few session written) t u e = absurd (cc)
  done _ (ends_over bytes more out given full some session written) t u e = absurd (cc)
  done _ (ends_stopped stop bytes out given front written) t u e = absurd (not_done stop e)

  pub read_fault :
      (result : Ending) → Ends result → IsTrue gives → IsTrue takes → result ≡ ReadFault
      → Continues old new
      (λ before after. IsCutOff (answering_of old) before left left' taken taken' after)
  read_fault _ (ends_done bytes out given few session written) t u e = absurd (cc)
  read_fault _ (ends_unread bytes out given few session written) t u e = record {
    rules = session.rules;
    kind = session.kind;
    stands = λ before here.
        let it = session.stands before here in
        (it.0, record { bytes = bytes; read = given t; within = few; out = out; output = it.1; written = written u }, it.2);
  }
  read_fault _ (ends_over bytes more out given full some session written) t u e = absurd (cc)
  read_fault _ (ends_stopped stop bytes out given front written) t u e = absurd (not_unread stop e)

  pub input_too_long :
      (result : Ending) → Ends result → IsTrue gives → IsTrue takes → result ≡ InputTooLong
      → Continues old new
      (λ before after. IsOverrun (answering_of old) before left taken taken' after)
  input_too_long _ (ends_done bytes out given few session written) t u e = absurd (cc)
  input_too_long _ (ends_unread bytes out given few session written) t u e = absurd (cc)
  input_too_long _ (ends_over bytes more out given full some session written) t u e = record {
    rules = session.rules;
    kind = session.kind;
    stands = λ before here.
        let it = session.stands before here in
        (it.0, record { bytes = bytes; more = more ++ left'; split = given t; full = full; over = λ f. some (front_empty more left' f); out = out; output = it.1; written = written u }, it.2);
  } where
    front_empty : (xs ys : List ℕ) → xs ++ ys ≡ [] → xs ≡ []
    front_empty [] ys f = refl
    front_empty (x ∷ xs) ys f = absurd (cc)
  input_too_long _ (ends_stopped stop bytes out given front written) t u e =
      absurd (not_over stop e)

  -- all of some bytes was written
  all_sent : (out : List ℕ) → taken' ≡ taken ++ out → AppendsPrefix taken taken' out
  all_sent out e =
      record { rest = []; sent = record { sent = out; split = sym (append-nil out); appended = e } }

  pub begun :
      (result : Ending) → Ends result → IsTrue gives → IsTrue takes → (before : History)
      → StandsForWalks old before → IsBegun (answering_of old) before left taken taken'
  begun _ (ends_done bytes out given few session written) t u before here =
      let it = session.stands before here in
      let same : bytes ≡ left = sym (given t).0 in
      record { out = out; output = of_all out it.0 (subst (λ l. length l ≤ most_of_stream) same few) (subst (λ l. IsOutput (answering_of old) before l out it.0) same it.1); written = all_sent out (written u) }
  begun _ (ends_unread bytes out given few session written) t u before here =
      let it = session.stands before here in
      record { out = out; output = of_lines bytes left' out it.0 (given t) few it.1; written = all_sent out (written u) }
  begun _ (ends_over bytes more out given full some session written) t u before here =
      let it = session.stands before here in
      record { out = out; output = of_lines bytes (more ++ left') out it.0 (given t) (omega (arith, full)) it.1; written = all_sent out (written u) }
  begun _ (ends_stopped stop bytes out given front written) t u before here =
      record { out = out; output = front t before here; written = written u }
