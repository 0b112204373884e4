use Rattle.std.proofs.Common.{◌≡◌, inl, sym, ap, ◌∙◌, subst, refl}
use Rattle.std.specs.Prelude.{MatchResult}
use Rattle.ring_listing.specs.declared.fault.CountFault.TheVariants.{Memory}
use Rattle.ring_listing.specs.Rings.{RingsAreCounted, IsFirstTooBigRing}
use Rattle.ring_listing.proofs.Told.{of_tree}
use Rattle.ring_listing.proofs.sizes.RingSizes.count.Goals as goal

pub returns-clause-told : goal.returns-clause-told
returns-clause-told c = λ n near h.
    let rules = c.count_to.ensures.rules ∙ ap (λ s. s.rules) c.self.view_is in
    let kind = c.count_to.ensures.kind ∙ ap (λ s. s.kind) c.self.view_is in
    let t = c.count_to.new.self in
    let s = c.args.self.now in
    let told = c.size.ensures.told n (of_tree (λ x k. RingsAreCounted x.kinds x.automaton k c.args.d n) s.rules t.rules.now s.kind t.kind (sym rules) (sym kind) h) in
    subst (λ x. MatchResult x (λ m. m ≡ n) (λ fault. fault ≡ Memory)) (sym told) refl

pub returns-clause-too_big : goal.returns-clause-too_big
returns-clause-too_big c = λ r e.
    let rules = c.count_to.ensures.rules ∙ ap (λ s. s.rules) c.self.view_is in
    let kind = c.count_to.ensures.kind ∙ ap (λ s. s.kind) c.self.view_is in
    let t = c.count_to.new.self in
    let s = c.args.self.now in
    of_tree (λ x k. IsFirstTooBigRing x.kinds x.automaton k c.args.d r) t.rules.now s.rules t.kind s.kind rules kind (c.size.ensures.too_big r e)

pub returns-clause-big : goal.returns-clause-big
returns-clause-big c = λ r near h.
    let rules = c.count_to.ensures.rules ∙ ap (λ s. s.rules) c.self.view_is in
    let kind = c.count_to.ensures.kind ∙ ap (λ s. s.kind) c.self.view_is in
    let t = c.count_to.new.self in
    let s = c.args.self.now in
    inl (c.size.ensures.big r (of_tree (λ x k. IsFirstTooBigRing x.kinds x.automaton k c.args.d r) s.rules t.rules.now s.kind t.kind (sym rules) (sym kind) h))
