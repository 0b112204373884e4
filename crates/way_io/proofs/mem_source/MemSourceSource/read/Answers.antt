-- The bytes that are copied are the next of those left.
use Rattle.std.proofs.Common.{◌≡◌, ◌≤◌, ◌-◌, List, ℕ, length, take, drop, arith, ap, ◌∙◌, sym}
use Rattle.std.proofs.lemmas.List.{take_rest}
use Rattle.way_io.specs.InMemory.{SourceState}
use Rattle.way_io.proofs.Fronts.{front}
use Rattle.way_io.proofs.mem_source.MemSourceSource.read.Goals as goal

pub returns-clause-next : goal.returns-clause-next
returns-clause-next c =
    let n = c.min-count.result in
    let at = c.self.inside.at in
    let bytes = c.self.inside.bytes.items in
    let left : c.args.self.now.left ≡ drop at bytes = ap (λ (s : SourceState). s.left) (sym c.self.view_is) in
    let rest : take (length c.deref.result.now - at) (drop at c.deref.result.now) ≡ drop at bytes = ap (λ (xs : List ℕ). take (length xs - at) (drop at xs)) c.deref.ensures.value ∙ take_rest bytes at in
    let copied : c.copy_from_slice.new.self ≡ take n (drop at bytes) = c.copy_from_slice.ensures.after ∙ ap (take n) rest in
    let within : n ≤ length (drop at bytes) = omega (arith, c.min.ensures, c.min-count.ensures, ap length rest) in
    left ∙ front bytes (drop n c.args.buf.now) c.copy_from_slice.new.self at n within copied
