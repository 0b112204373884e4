use Rattle.std.proofs.Common.{sym, ◌∙◌, subst}
use Rattle.rules_tools.specs.Splitting.{Cuts}
use Rattle.rules_tools.proofs.Cutting.{side_cuts, cut_apart}
use Rattle.rules_tools.proofs.splitting.split_by.Goals as goal

pub loop-side-preserved : goal.loop-side-preserved
loop-side-preserved c = record {
  long = c.cut.ensures.long ∙ c.loop-side.invariant.long;
  members = λ h. c.in_ok-cut.ensures.members (c.loop-side.invariant.members h);
  apart = λ kinds a ok parents h.
      let before = c.loop-side.invariant.apart kinds a ok parents h in
      let cuts = side_cuts kinds a ok c.args.parents.now parents c.args.x.now h c.args.number c.find_parents.new.found.items c.in_ok-find_parents.ensures.found c.loop-side.side c.loop-side-test.true in
      record {
        long = c.cut.ensures.long ∙ before.long;
        members = c.in_ok-cut.ensures.members before.members;
        apart = cut_apart kinds a c.states_of.result.now c.loop-side.x.class.items c.cut.new.x.class.items before.long before.apart
            (subst (Cuts kinds a) (sym c.states_of.ensures) cuts) c.in_ok-cut.ensures.cut;
      };
}
