use Rattle.std.proofs.Common.{◌≡◌, ℕ, ◌<◌, [], ◌∷◌, length, replicate, slice_index_or, slice_set, sym, ap, ap₂, ◌∙◌, subst, arith}
use Rattle.std.proofs.lemmas.List.{length-replicate, length-set}
use Rattle.tree_model.specs.Automata.{TreeAutomaton, root_at}
use Rattle.tree_model.proofs.Rings.{count_below}
use Rattle.ring_listing.specs.Populations.{IsPopulation}
use Rattle.ring_listing.proofs.Tallying.{first_population}
use Rattle.ring_listing.proofs.tally.Tally.first.Goals as goal

pub returns-clause-tally : goal.returns-clause-tally
returns-clause-tally c =
    let kinds = c.args.rules.now.kinds in
    let a = c.args.rules.now.automaton in
    let k = c.args.kind in
    let n = length c.in_ok-families.families.items in
    let families = c.in_ok-families.ensures in
    let count : c.len.result ≡ n = omega (arith, c.len.ensures) in
    let count_again : c.len-2.result ≡ n = omega (arith, c.len-2.ensures) in
    let zeros : c.in_ok-tiles.tiles.items ≡ replicate n 0 = c.in_ok-tiles.ensures.items_if_clones_equal (λ y e. e) ∙ ap (λ m. replicate m 0) count in
    let rest : c.in_ok-vec-2.field-0.items ≡ replicate n 0 = c.in_ok-vec-2.ensures.items_if_clones_equal (λ y e. e) ∙ ap (λ m. replicate m 0) count_again in
    let root : c.root.result ≡ root_at a k = c.root.ensures ∙ ap (λ (b : TreeAutomaton). root_at b k) c.automaton.ensures.value in
    let known : root_at a k < n = omega (arith, c.automaton.ensures.sound.accepted.c1.root k c.requires, families.each) in
    let tiles : slice_set c.in_ok-tiles.tiles.items c.root.result 1 ≡ slice_set (replicate n 0) (root_at a k) 1 = ap₂ (λ xs i. slice_set xs i 1) zeros root in
    let first = subst (IsPopulation kinds a k 0) (sym tiles) (first_population kinds a k n known) in
    let one : c.in_ok-vec.field-0.items ≡ 1 ∷ [] = c.in_ok-vec.ensures.items in
    let zero_of : (d : ℕ) → d < length c.in_ok-vec.field-0.items → d ≡ 0 = λ d l. omega (arith, l, ap length one) in
    record {
      kind = c.requires;
      sizes = λ d l. ap₂ (λ xs i. slice_index_or xs i 0) one (zero_of d l) ∙ ap (λ i. count_below kinds a i (root_at a k)) (sym (zero_of d l));
      few = λ d l. let same : count_below kinds a d (root_at a k) ≡ 1 = ap (λ i. count_below kinds a i (root_at a k)) (zero_of d l) in omega (arith, same);
      full = λ f. absurd (cc f);
      going = λ _. record {
        families = families;
        tiles = omega (arith, length-set {A = ℕ} c.in_ok-tiles.tiles.items c.root.result 1, ap length zeros, length-replicate {A = ℕ} n 0, families.each);
        room = ap length rest ∙ length-replicate {A = ℕ} n 0 ∙ families.each;
        population = λ d e. let same : 0 ≡ d = omega (arith, e, ap length one) in subst (λ x. IsPopulation kinds a k x (slice_set c.in_ok-tiles.tiles.items c.root.result 1)) same first;
      };
    }
