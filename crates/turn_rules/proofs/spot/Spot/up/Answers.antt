use Rattle.std.proofs.Common.{sym, ap, ◌∙◌, ◌++◌, arith, option_to_list, ◌≡◌, suc, length}
use Rattle.spot_laws.proofs.Spots.{up_is}
use Rattle.turn_rules.proofs.spot.Spot.up.Goals as goal

pub returns-in-Some : goal.returns-in-Some
returns-in-Some c =
    let more : length c.self.inside.path.items ≡ suc (length c.self.inside.name) = c.self.invariant in
    let some = c.pop-in-Some.ensures.value 0 (omega (arith, more, c.self.inside.path.ok.0)) in
    let path = c.pop-in-Some.ensures.items ∙ ap (λ o. c.pop-in-Some.new.self.items ++ option_to_list o) some in
    up_is c.args.r.now c.args.self.now _ _ c.requires.spot (sym (ap (λ s. s.name) c.self.view_is) ∙ c.in-Some.ensures.last) (sym (ap (λ s. s.path) c.self.view_is) ∙ path)
