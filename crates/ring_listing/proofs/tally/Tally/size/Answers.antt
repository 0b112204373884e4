use Rattle.std.proofs.Common.{◌≡◌, ◌<◌, ◌≤◌, Ok, Err, length, sym, ap, ◌∙◌, subst, arith, ⊎_elim}
use Rattle.std.proofs.lemmas.List.{get_or_read}
use Rattle.ring_listing.specs.declared.fault.CountFault.TheVariants.{TooBig}
use Rattle.ring_listing.specs.Rings.{RingsAreCounted, IsFirstTooBigRing}
use Rattle.ring_listing.proofs.Counted.{counted, counted_is, first_big, first_is, too_big, not_too_big}
use Rattle.ring_listing.proofs.tally.Tally.size.Goals as goal

pub returns-then-d-counted-clause-counted : goal.returns-then-d-counted-clause-counted
returns-then-d-counted-clause-counted c =
    let t = c.args.self.now in
    let kinds = t.rules.now.kinds in
    let a = t.rules.now.automaton in
    let h = c.requires.tally in
    let within : c.args.d < length t.sizes.items = omega (arith, c.len-counted.ensures) in
    let value = get_or_read t.sizes.items c.args.d c.index.result.now within c.index.ensures 0 ∙ h.sizes c.args.d within in
    subst (RingsAreCounted kinds a t.kind c.args.d) (sym value) (counted kinds a t.kind c.args.d (λ q l. h.few q (omega (arith, l, within))))

pub returns-then-d-counted-clause-told : goal.returns-then-d-counted-clause-told
returns-then-d-counted-clause-told c = λ n rings.
    let t = c.args.self.now in
    let kinds = t.rules.now.kinds in
    let a = t.rules.now.automaton in
    let h = c.requires.tally in
    let within : c.args.d < length t.sizes.items = omega (arith, c.len-counted.ensures) in
    let value = get_or_read t.sizes.items c.args.d c.index.result.now within c.index.ensures 0 ∙ h.sizes c.args.d within in
    ap Ok (value ∙ sym (counted_is kinds a t.kind c.args.d n rings))

pub returns-then-d-counted-clause-big : goal.returns-then-d-counted-clause-big
returns-then-d-counted-clause-big c = λ r first.
    let t = c.args.self.now in
    let kinds = t.rules.now.kinds in
    let a = t.rules.now.automaton in
    let h = c.requires.tally in
    let near = first.within in
    let within : r < length t.sizes.items = omega (arith, c.len-counted.ensures, near) in
    absurd (not_too_big kinds a t.kind r (h.few r within) first.big)

pub returns-clause-told : goal.returns-clause-told
returns-clause-told c = λ m rings.
    let t = c.args.self.now in
    let kinds = t.rules.now.kinds in
    let a = t.rules.now.automaton in
    let h = c.requires.tally in
    let n = length t.sizes.items in
    let count : c.len-counted.result ≡ n = omega (arith, c.len-counted.ensures) in
    let within : n ≤ c.args.d = omega (arith, count) in
    let big = h.full (⊎_elim (λ l. absurd (omega (arith, l, within))) (λ f. f) c.requires.known) in
    absurd (rings.none_big n within (too_big kinds a t.kind n big))

pub returns-clause-too_big : goal.returns-clause-too_big
returns-clause-too_big c = λ r e.
    let t = c.args.self.now in
    let kinds = t.rules.now.kinds in
    let a = t.rules.now.automaton in
    let h = c.requires.tally in
    let n = length t.sizes.items in
    let count : c.len-counted.result ≡ n = omega (arith, c.len-counted.ensures) in
    let within : n ≤ c.args.d = omega (arith, count) in
    let big = h.full (⊎_elim (λ l. absurd (omega (arith, l, within))) (λ f. f) c.requires.known) in
    let same : c.len-counted.result ≡ r = cc in
    subst (IsFirstTooBigRing kinds a t.kind c.args.d) (sym count ∙ same) (first_big kinds a t.kind c.args.d n within big h.few)

pub returns-clause-big : goal.returns-clause-big
returns-clause-big c = λ r first.
    let t = c.args.self.now in
    let kinds = t.rules.now.kinds in
    let a = t.rules.now.automaton in
    let h = c.requires.tally in
    let n = length t.sizes.items in
    let count : c.len-counted.result ≡ n = omega (arith, c.len-counted.ensures) in
    let within : n ≤ c.args.d = omega (arith, count) in
    let big = h.full (⊎_elim (λ l. absurd (omega (arith, l, within))) (λ f. f) c.requires.known) in
    let same : c.len-counted.result ≡ r = count ∙ sym (first_is kinds a t.kind c.args.d r n within big h.few first) in
    ap (λ x. Err (TooBig x)) same
