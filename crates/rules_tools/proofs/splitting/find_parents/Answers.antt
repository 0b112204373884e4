use Rattle.std.proofs.Common.{◌≡◌, ◌⊎◌, inl, inr, ℕ, ◌<◌, List, take, get_or, Contains, length, sym, ap, ◌∙◌, subst, arith}
use Rattle.std.proofs.lemmas.List.{take_more, take_all}
use Rattle.std.proofs.lemmas.List.Elements.{Contains-push_cases}
use Rattle.rules_tools.specs.declared.parents.Parent.{Parent}
use Rattle.rules_tools.specs.Keys.{class_of}
use Rattle.rules_tools.specs.Rows.{row}
use Rattle.rules_tools.specs.Parents.{HasParent}
use Rattle.rules_tools.proofs.splitting.find_parents.Goals as goal

pub loop-u-preserved : goal.loop-u-preserved
loop-u-preserved c = record {
  long = c.add_parents_of.ensures.long;
  sound = λ i s has. sound i s (c.in_ok-add_parents_of.ensures.only i s has);
  all = λ u y has number parent low. all u y number parent low (Contains-push_cases (take index members) here u (subst (λ xs. Contains xs u) (take_more members index 0 within) has));
}
  where
    index : ℕ
    index = c.loop-u.u-index

    members : List ℕ
    members = row c.args.x.now.members.items c.args.number

    here : ℕ
    here = get_or members index 0

    here_is : get_or c.states_of-u-items.result.now index 0 ≡ here
    here_is = ap (λ xs. get_or xs index 0) c.states_of-u-items.ensures

    within : index < length members
    within = subst (λ xs. index < length xs) c.states_of-u-items.ensures c.loop-u-test.true

    class_is : (u : ℕ) → class_of c.deref.result.now u ≡ class_of c.args.x.now.class.items u
    class_is u = ap (λ xs. class_of xs u) c.deref.ensures.value

    sound : (i s : ℕ) → Contains (row c.loop-u.found.items i) s ⊎ ((class_of c.deref.result.now (get_or c.states_of-u-items.result.now index 0) ≡ c.args.number) × HasParent c.args.parents.now (get_or c.states_of-u-items.result.now index 0) (record { state = s; side = i }))
        → (u : ℕ) × (class_of c.args.x.now.class.items u ≡ c.args.number) × HasParent c.args.parents.now u (record { state = s; side = i })
    sound i s (inl old) = c.loop-u.invariant.sound i s old
    sound i s (inr (number, parent)) = (get_or c.states_of-u-items.result.now index 0, sym (class_is (get_or c.states_of-u-items.result.now index 0)) ∙ number, parent)

    all : (u : ℕ) (y : Parent) → class_of c.args.x.now.class.items u ≡ c.args.number → HasParent c.args.parents.now u y → y.side < 64 → Contains (take index members) u ⊎ (here ≡ u) → Contains (row c.add_parents_of.new.found.items y.side) y.state
    all u y number parent low (inl old) = c.in_ok-add_parents_of.ensures.kept y.side y.state (c.loop-u.invariant.all u y old number parent low)
    all u y number parent low (inr e) =
        let same = here_is ∙ e in
        c.in_ok-add_parents_of.ensures.added y
        (class_is (get_or c.states_of-u-items.result.now index 0) ∙ ap (class_of c.args.x.now.class.items) same ∙ number)
        (subst (λ k. HasParent c.args.parents.now k y) (sym same) parent) low

pub returns-clause-found : goal.returns-clause-found
returns-clause-found c = record {
  sound = c.loop-u.invariant.sound;
  all = λ u y member number parent low. c.loop-u.invariant.all u y (subst (λ xs. Contains xs u) (sym whole) member) number parent low;
}
  where
    whole : take c.loop-u.u-index (row c.args.x.now.members.items c.args.number) ≡ row c.args.x.now.members.items c.args.number
    whole = take_all c.loop-u.u-index (row c.args.x.now.members.items c.args.number) (omega (arith, c.loop-u-test.false, ap length c.states_of-u-items.ensures))
