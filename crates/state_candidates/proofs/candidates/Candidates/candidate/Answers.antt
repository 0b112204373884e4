-- The candidate, or none.
use Rattle.std.proofs.Common.{◌≡◌, List, length, IfSome, sym, ap, ◌∙◌, subst, arith}
use Rattle.tree_model.specs.Automata.{TreeAutomaton}
use Rattle.look_classes.specs.States.{LooksState}
use Rattle.state_candidates.specs.Candidates.{AreLooks, IsCandidate, CandidatesState}
use Rattle.state_candidates.specs.Readers.{ReaderState}
use Rattle.state_candidates.specs.Gathered.{AreReadersOf, IsAssembled}
use Rattle.state_candidates.proofs.Found.{is_candidate, is_assembled, some_as, none_as}
use Rattle.state_candidates.proofs.OneCandidate.{one_candidate}
use Rattle.state_candidates.proofs.candidates.Candidates.candidate.Goals as goal

pub returns-clause-some : goal.returns-clause-some
returns-clause-some c =
    let looks = c.self.inside.looks.items in
    let rs = c.deref-2.result.now in
    let v = c.args.self.now in
    let found = subst (λ o. IfSome o (λ w. (length w.items ≡ length c.deref.result.now) × AreReadersOf c.deref.result.now w.items)) c.in-Some.is c.in_ok-readers.ensures.some in
    let count : length rs ≡ length looks = ap length c.deref-2.ensures.value ∙ (found.0 ∙ ap length c.deref.ensures.value) in
    let readers : AreReadersOf looks rs = subst (λ (ls : List LooksState). AreReadersOf ls rs) c.deref.ensures.value (subst (λ (ws : List ReaderState). AreReadersOf c.deref.result.now ws) (sym c.deref-2.ensures.value) found.1) in
    let ok : AreLooks v.regions v.horizon looks = subst (λ (w : CandidatesState). AreLooks w.regions w.horizon looks) c.self.view_is c.self.invariant in
    let all : length looks ≡ length v.regions = omega (arith, c.if-len-self.false, c.len.ensures, c.self.inside.looks.ok.0, ap (λ (w : CandidatesState). length w.regions) c.self.view_is) in
    let kinds : length v.regions ≡ length c.args.t.now = omega (arith, c.if-self-kinds.false, c.kinds.ensures.value, ap (λ (w : CandidatesState). length w.regions) c.self.view_is) in
    some_as (IsAssembled rs) (IsCandidate c.args.t.now v.regions v.horizon) c.assemble.result (is_candidate v.regions v.horizon looks ok all c.args.t.now rs count readers kinds) c.assemble.ensures.some

pub returns-clause-none : goal.returns-clause-none
returns-clause-none c =
    let looks = c.self.inside.looks.items in
    let rs = c.deref-2.result.now in
    let v = c.args.self.now in
    let found = subst (λ o. IfSome o (λ w. (length w.items ≡ length c.deref.result.now) × AreReadersOf c.deref.result.now w.items)) c.in-Some.is c.in_ok-readers.ensures.some in
    let count : length rs ≡ length looks = ap length c.deref-2.ensures.value ∙ (found.0 ∙ ap length c.deref.ensures.value) in
    let readers : AreReadersOf looks rs = subst (λ (ls : List LooksState). AreReadersOf ls rs) c.deref.ensures.value (subst (λ (ws : List ReaderState). AreReadersOf c.deref.result.now ws) (sym c.deref-2.ensures.value) found.1) in
    let ok : AreLooks v.regions v.horizon looks = subst (λ (w : CandidatesState). AreLooks w.regions w.horizon looks) c.self.view_is c.self.invariant in
    let all : length looks ≡ length v.regions = omega (arith, c.if-len-self.false, c.len.ensures, c.self.inside.looks.ok.0, ap (λ (w : CandidatesState). length w.regions) c.self.view_is) in
    let kinds : length v.regions ≡ length c.args.t.now = omega (arith, c.if-self-kinds.false, c.kinds.ensures.value, ap (λ (w : CandidatesState). length w.regions) c.self.view_is) in
    none_as ((a : TreeAutomaton) → IsAssembled rs a → ⊥) ((a : TreeAutomaton) → IsCandidate c.args.t.now v.regions v.horizon a → ⊥) c.assemble.result (λ none a is. none a (is_assembled v.regions v.horizon looks ok all c.args.t.now rs count readers kinds a is)) c.assemble.ensures.none

pub returns-clause-only : goal.returns-clause-only
returns-clause-only c =
    let looks = c.self.inside.looks.items in
    let rs = c.deref-2.result.now in
    let v = c.args.self.now in
    let found = subst (λ o. IfSome o (λ w. (length w.items ≡ length c.deref.result.now) × AreReadersOf c.deref.result.now w.items)) c.in-Some.is c.in_ok-readers.ensures.some in
    let count : length rs ≡ length looks = ap length c.deref-2.ensures.value ∙ (found.0 ∙ ap length c.deref.ensures.value) in
    let readers : AreReadersOf looks rs = subst (λ (ls : List LooksState). AreReadersOf ls rs) c.deref.ensures.value (subst (λ (ws : List ReaderState). AreReadersOf c.deref.result.now ws) (sym c.deref-2.ensures.value) found.1) in
    let ok : AreLooks v.regions v.horizon looks = subst (λ (w : CandidatesState). AreLooks w.regions w.horizon looks) c.self.view_is c.self.invariant in
    let all : length looks ≡ length v.regions = omega (arith, c.if-len-self.false, c.len.ensures, c.self.inside.looks.ok.0, ap (λ (w : CandidatesState). length w.regions) c.self.view_is) in
    let kinds : length v.regions ≡ length c.args.t.now = omega (arith, c.if-self-kinds.false, c.kinds.ensures.value, ap (λ (w : CandidatesState). length w.regions) c.self.view_is) in
    some_as (IsAssembled rs) (λ a. (b : TreeAutomaton) → IsCandidate c.args.t.now v.regions v.horizon b → b ≡ a) c.assemble.result (λ a whole b is. one_candidate c.args.t.now v.regions v.horizon b a is (is_candidate v.regions v.horizon looks ok all c.args.t.now rs count readers kinds a whole)) c.assemble.ensures.some
