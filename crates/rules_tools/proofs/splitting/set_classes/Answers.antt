use Rattle.std.proofs.Common.{◌≡◌, ℕ, ◌<◌, length, take, get_or, map, Contains, sym, ap, ◌∙◌, subst, arith}
use Rattle.std.proofs.lemmas.List.{get_or_default, length-map, take_all}
use Rattle.merge_laws.proofs.Copies.{mapped}
use Rattle.rules_tools.specs.Keys.{class_of}
use Rattle.rules_tools.proofs.Cutting.{these_more, others_more}
use Rattle.rules_tools.proofs.splitting.set_classes.Goals as goal

pub loop-j-preserved : goal.loop-j-preserved
loop-j-preserved c = record {
  long = c.set_class.ensures.long ∙ c.loop-j.invariant.long;
  members = λ h. c.in_ok-set_class.ensures.members (c.loop-j.invariant.members h);
  these = λ s ls.
      these_more c.args.found.now c.args.x.now.class.items c.loop-j.x.class.items c.set_class.new.x.class.items to c.loop-j.j s c.loop-j-test.true
      (c.loop-j.invariant.these s ls) (this s ls) (c.set_class.ensures.others s);
  others = λ s.
      others_more c.args.found.now c.args.x.now.class.items c.loop-j.x.class.items c.set_class.new.x.class.items to c.loop-j.j s c.loop-j-test.true
      (c.loop-j.invariant.others s) (c.set_class.ensures.others s);
}
  where
    to : ℕ → ℕ
    to k = class_of c.args.targets.now k

    number : ℕ → ℕ
    number s = class_of c.args.targets.now (class_of c.args.x.now.class.items s)

    in_numbers : c.loop-j.j < length (map number c.args.found.now)
    in_numbers = omega (arith, c.loop-j-test.true, length-map c.args.found.now number)

    number_is : get_or c.args.numbers.now c.loop-j.j 0 ≡ number (get_or c.args.found.now c.loop-j.j 0)
    number_is =
        ap (λ xs. get_or xs c.loop-j.j 0) c.requires
        ∙ sym (get_or_default (map number c.args.found.now) c.loop-j.j (number 0) 0 in_numbers)
        ∙ mapped number c.args.found.now c.loop-j.j 0

    this : (s : ℕ) → s < length c.args.x.now.class.items → s ≡ get_or c.args.found.now c.loop-j.j 0 → class_of c.set_class.new.x.class.items s ≡ number s
    this s ls e =
        ap (class_of c.set_class.new.x.class.items) e
        ∙ c.in_ok-set_class.ensures.this (omega (arith, ls, e, c.loop-j.invariant.long))
        ∙ number_is ∙ ap number (sym e)

pub returns-clause-cut : goal.returns-clause-cut
returns-clause-cut c = record {
  to = λ k. class_of c.args.targets.now k;
  these = λ s ls has. c.loop-j.invariant.these s ls (subst (λ xs. Contains xs s) (sym whole) has);
  others = λ s ls none. c.loop-j.invariant.others s (λ has. none (subst (λ xs. Contains xs s) whole has));
}
  where
    whole : take c.loop-j.j c.args.found.now ≡ c.args.found.now
    whole = take_all c.loop-j.j c.args.found.now c.loop-j-test.false
