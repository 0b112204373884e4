use Rattle.std.proofs.Common.{◌≡◌, ◌<◌, ℕ, List, length, refl, sym, ◌∙◌, subst, arith}
use Rattle.merge_model.specs.Telling.{TellsApart, IsFirstTelling}
use Rattle.rules_tools.specs.Keys.{class_of}
use Rattle.rules_tools.specs.Pairs.{pair_at}
use Rattle.rules_tools.proofs.Growing.{first_state, second_state, queue_few}
use Rattle.rules_tools.proofs.Told.{none_tells}
use Rattle.rules_tools.proofs.first_path.find.Goals as goal

pub loop-next-init : goal.loop-next-init
loop-next-init c = record {
  searching = c.in_ok-search.ensures.searching;
  first = c.in_ok-search.ensures.first;
  second = c.in_ok-search.ensures.second;
  within = omega arith;
}

pub path-requires-clause-differ : goal.path-requires-clause-differ
path-requires-clause-differ c = λ same.
    let first = subst (λ n. n < length c.args.automaton.now.states) (sym c.loop-next.invariant.first) c.requires.first in
    let second = subst (λ n. n < length c.args.automaton.now.states) (sym c.loop-next.invariant.second) c.requires.second in
    let within : c.loop-next.next < length c.loop-next.search.queue.items = omega (arith, c.loop-next-test.true, c.len.ensures, c.loop-next.search.queue.ok.0) in
    c.differ.ensures.yes c.if-differ.true
    (subst (λ f. class_of f (pair_at c.loop-next.search.queue.items c.loop-next.next).first ≡ class_of f (pair_at c.loop-next.search.queue.items c.loop-next.next).second) (sym c.deref.ensures.value)
    ((c.in_ok-faces.ensures (pair_at c.loop-next.search.queue.items c.loop-next.next).first (pair_at c.loop-next.search.queue.items c.loop-next.next).second
    (first_state c.args.tess.now c.args.automaton.now c.requires.accepted c.loop-next.search.first c.loop-next.search.second first second c.loop-next.search.above.items c.loop-next.search.queue.items c.loop-next.next 0 c.loop-next.invariant.searching c.loop-next.next within) (second_state c.args.tess.now c.args.automaton.now c.requires.accepted c.loop-next.search.first c.loop-next.search.second first second c.loop-next.search.above.items c.loop-next.search.queue.items c.loop-next.next 0 c.loop-next.invariant.searching c.loop-next.next within)).1 same))

pub returns-then-differ-clause-none : goal.returns-then-differ-clause-none
returns-then-differ-clause-none c =
    let tells = subst (λ s. IsFirstTelling c.args.tess.now c.args.automaton.now s c.args.b c.in_ok-path.field-0) c.loop-next.invariant.first
    (subst (λ t. IsFirstTelling c.args.tess.now c.args.automaton.now c.loop-next.search.first t c.in_ok-path.field-0) c.loop-next.invariant.second c.in_ok-path.ensures) in
    ((λ e. absurd (cc (e))), (λ none. absurd (none c.in_ok-path.field-0 tells.tells)))

pub returns-then-differ-clause-some : goal.returns-then-differ-clause-some
returns-then-differ-clause-some c =
    let tells = subst (λ s. IsFirstTelling c.args.tess.now c.args.automaton.now s c.args.b c.in_ok-path.field-0) c.loop-next.invariant.first
    (subst (λ t. IsFirstTelling c.args.tess.now c.args.automaton.now c.loop-next.search.first t c.in_ok-path.field-0) c.loop-next.invariant.second c.in_ok-path.ensures) in
    tells

pub pass_entry-requires-clause-first : goal.pass_entry-requires-clause-first
pass_entry-requires-clause-first c = subst (λ n. n < length c.args.automaton.now.states) (sym c.loop-next.invariant.first) c.requires.first

pub pass_entry-requires-clause-second : goal.pass_entry-requires-clause-second
pass_entry-requires-clause-second c = subst (λ n. n < length c.args.automaton.now.states) (sym c.loop-next.invariant.second) c.requires.second

pub pass_entry-requires-clause-face : goal.pass_entry-requires-clause-face
pass_entry-requires-clause-face c =
    let first = subst (λ n. n < length c.args.automaton.now.states) (sym c.loop-next.invariant.first) c.requires.first in
    let second = subst (λ n. n < length c.args.automaton.now.states) (sym c.loop-next.invariant.second) c.requires.second in
    let within : c.loop-next.next < length c.loop-next.search.queue.items = omega (arith, c.loop-next-test.true, c.len.ensures, c.loop-next.search.queue.ok.0) in
    (c.in_ok-faces.ensures (pair_at c.loop-next.search.queue.items c.loop-next.next).first (pair_at c.loop-next.search.queue.items c.loop-next.next).second
    (first_state c.args.tess.now c.args.automaton.now c.requires.accepted c.loop-next.search.first c.loop-next.search.second first second c.loop-next.search.above.items c.loop-next.search.queue.items c.loop-next.next 0 c.loop-next.invariant.searching c.loop-next.next within) (second_state c.args.tess.now c.args.automaton.now c.requires.accepted c.loop-next.search.first c.loop-next.search.second first second c.loop-next.search.above.items c.loop-next.search.queue.items c.loop-next.next 0 c.loop-next.invariant.searching c.loop-next.next within)).0
    (subst (λ f. class_of f (pair_at c.loop-next.search.queue.items c.loop-next.next).first ≡ class_of f (pair_at c.loop-next.search.queue.items c.loop-next.next).second) c.deref.ensures.value
    (c.differ.ensures.no c.if-differ.false))

pub loop-next-smaller : goal.loop-next-smaller
loop-next-smaller c =
    let first = subst (λ n. n < length c.args.automaton.now.states) (sym c.loop-next.invariant.first) c.requires.first in
    let second = subst (λ n. n < length c.args.automaton.now.states) (sym c.loop-next.invariant.second) c.requires.second in
    let within : c.loop-next.next < length c.loop-next.search.queue.items = omega (arith, c.loop-next-test.true, c.len.ensures, c.loop-next.search.queue.ok.0) in
    let few = queue_few c.args.tess.now c.args.automaton.now c.requires.accepted c.loop-next.search.first c.loop-next.search.second first second c.loop-next.search.above.items c.loop-next.search.queue.items c.loop-next.next 0 c.loop-next.invariant.searching in
    omega (arith, within, few)

pub loop-next-preserved : goal.loop-next-preserved
loop-next-preserved c = record {
  searching = c.in_ok-pass_entry.ensures.searching;
  first = c.in_ok-pass_entry.ensures.kept.first ∙ c.loop-next.invariant.first;
  second = c.in_ok-pass_entry.ensures.kept.second ∙ c.loop-next.invariant.second;
  within = omega (arith, c.loop-next-test.true, c.len.ensures, c.loop-next.search.queue.ok.0, c.in_ok-pass_entry.ensures.kept.longer);
}

pub returns-clause-none : goal.returns-clause-none
returns-clause-none c = ((λ _ path told. none path told), (λ _. refl))
  where
    none : (path : List ℕ) → TellsApart c.args.tess.now c.args.automaton.now c.args.a c.args.b path → ⊥
    none path told =
        none_tells c.args.tess.now c.args.automaton.now c.loop-next.search.first c.loop-next.search.second c.loop-next.search.above.items c.loop-next.search.queue.items c.loop-next.next 0 c.loop-next.invariant.searching
        (omega (arith, c.loop-next-test.false, c.len.ensures, c.loop-next.search.queue.ok.0)) path
        (subst (λ s. TellsApart c.args.tess.now c.args.automaton.now s c.loop-next.search.second path) (sym c.loop-next.invariant.first)
        (subst (λ t. TellsApart c.args.tess.now c.args.automaton.now c.args.a t path) (sym c.loop-next.invariant.second) told))
