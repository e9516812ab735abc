use mathlib.Core.Path.{◌≡◌, sym, ap, ◌∙◌}
use Prim.Native.Nat.{◌+◌}
use borrow.Author.Rules.{rules}
use Rattle.std.specs.Prelude.{Err, []}
use Rattle.std.proofs.lemmas.Result.{IfOk-at_ok}
use Rattle.book.specs.declared.Fault.TheVariants.{Broken, GivenBefore}
use Rattle.record_checker.proofs.Mapped.{mapped_ok, mapped_err}
use native.Mathlib.Omega.{arith}
use Rattle.book.specs.Refusals.{told}
use Rattle.verdicts.proofs.Turns.{turn_stopped, turn_refused, byte_known}
use Rattle.record_checker.proofs.Begins.{first_stopped, first_byte, first_forth, first_refused, first_taken, first_start, first_len, counted_on}
use Rattle.record_checker.proofs.Passes.{moved_on, stood}
use Rattle.record_checker.proofs.Ends.{ended_closed, left_key, key_refused, looked_slot, looked_less, looked_on}
use Rattle.record_checker.proofs.check_record.Goals as goal

pub returns-in_err-first-clause-checked : goal.returns-in_err-first-clause-checked
returns-in_err-first-clause-checked c =
    let m = mapped_err c.command_at.result c.map_err.result _ c.map_err.ensures.cases _ c.in_err-first.was in
    let q : c.in_err-first.field-0.0 ≡ record { fault = Broken; place = c.args.base } = search (rules, m.1.1) in
    let r : c.from_residual.result ≡ Err c.in_err-first.field-0.0 = search rules in
    rw (r, q) (first_stopped _ _ _ _ c.command_at.ensures c.requires.size.0 _ m.1.0)

pub begin-requires-clause-byte : goal.begin-requires-clause-byte
begin-requires-clause-byte c = first_byte c.args.part.now c.args.base c.args.text.now.bytes.now [] c.command_at.ensures (mapped_ok c.command_at.result c.map_err.result _ c.map_err.ensures.cases _ c.in_ok-first.was)

pub returns-in_err-map_err-clause-checked : goal.returns-in_err-map_err-clause-checked
returns-in_err-map_err-clause-checked c =
    let m = mapped_err c.begin.result c.map_err-2.result _ c.map_err-2.ensures.cases _ c.in_err-map_err.was in
    let q : c.in_err-map_err.field-0.0 ≡ record { fault = m.0; place = c.args.base } = search (rules, m.1.1) in
    let r : c.from_residual-in_err-map_err.result ≡ Err c.in_err-map_err.field-0.0 = search rules in
    rw (r, q) (first_refused _ _ _ _ c.command_at.ensures (mapped_ok c.command_at.result c.map_err.result _ c.map_err.ensures.cases _ c.in_ok-first.was) _ (sym (ap told m.1.0) ∙ c.begin.ensures.fault))

pub loop-at-init : goal.loop-at-init
loop-at-init c =
    let ok = (mapped_ok c.begin.result c.map_err-2.result _ c.map_err-2.ensures.cases _ c.in_ok-map_err.was) in
    let b = IfOk-at_ok _ ok c.begin.ensures.rows_after in (
      first_forth c.args.part.now c.args.base c.args.text.now.bytes.now [] c.command_at.ensures (mapped_ok c.command_at.result c.map_err.result _ c.map_err.ensures.cases _ c.in_ok-first.was),
      first_taken _ _ _ _ c.command_at.ensures (mapped_ok c.command_at.result c.map_err.result _ c.map_err.ensures.cases _ c.in_ok-first.was) b.0 (sym (ap told ok) ∙ c.begin.ensures.fault) _ c.begun-tally.ensures.0 _ c.begun-tally.ensures.1 _ c.clear.ensures,
    )

pub pass-to-requires-clause-begun : goal.pass-to-requires-clause-begun
pass-to-requires-clause-begun c = counted_on _ _ _ _ c.loop-at.invariant.1 c.loop-at.invariant.0

pub loop-at-smaller-then-at-to : goal.loop-at-smaller-then-at-to
loop-at-smaller-then-at-to c = omega (arith, c.if-at-to.true, (moved_on _ _ _ _ c.loop-at.invariant.1 c.pass-to.ensures).place)

pub loop-at-preserved-then-at-to : goal.loop-at-preserved-then-at-to
loop-at-preserved-then-at-to c = (omega (arith, c.if-at-to.true), moved_on _ _ _ _ c.loop-at.invariant.1 c.pass-to.ensures)

pub returns-then-is_ended-clause-checked : goal.returns-then-is_ended-clause-checked
returns-then-is_ended-clause-checked c =
    let ok = (mapped_ok c.begin.result c.map_err-2.result _ c.map_err-2.ensures.cases _ c.in_ok-map_err.was) in
    let b = IfOk-at_ok _ ok c.begin.ensures.rows_after in
    let d = sym (ap told ok) ∙ c.begin.ensures.fault in
    ended_closed _ _ _ _ (stood _ _ _ _ c.loop-at.invariant.1 c.pass-to.ensures c.if-at-to.false) _ c.is_ended.ensures c.if-is_ended.true _ _
    (first_start _ c.args.base _ _ c.command_at.ensures (mapped_ok c.command_at.result c.map_err.result _ c.map_err.ensures.cases _ c.in_ok-first.was) b.0 d) (first_len _ c.args.base _ _ c.command_at.ensures (mapped_ok c.command_at.result c.map_err.result _ c.map_err.ensures.cases _ c.in_ok-first.was) b.0 d)

pub returns-in_err-c-clause-checked : goal.returns-in_err-c-clause-checked
returns-in_err-c-clause-checked c =
    let m = mapped_err c.command_at-in-loop-at.result c.map_err-in-loop-at.result _ c.map_err-in-loop-at.ensures.cases _ c.in_err-c.was in
    let q : c.in_err-c.field-0.0 ≡ record { fault = Broken; place = c.args.base + c.loop-at.at } = search (rules, m.1.1) in
    let r : c.from_residual-in_err-c.result ≡ Err c.in_err-c.field-0.0 = search rules in
    rw (r, q) (turn_stopped _ _ _ _ (stood _ _ _ _ c.loop-at.invariant.1 c.pass-to.ensures c.if-at-to.false) c.command_at-in-loop-at.ensures c.requires.size.0 _ m.1.0)

pub fault_of-requires-clause-byte : goal.fault_of-requires-clause-byte
fault_of-requires-clause-byte c = byte_known _ _ _ _ (stood _ _ _ _ c.loop-at.invariant.1 c.pass-to.ensures c.if-at-to.false) c.command_at-in-loop-at.ensures (mapped_ok c.command_at-in-loop-at.result c.map_err-in-loop-at.result _ c.map_err-in-loop-at.ensures.cases _ c.in_ok-c.was)

pub fault_of-requires-clause-begun : goal.fault_of-requires-clause-begun
fault_of-requires-clause-begun c = counted_on _ _ _ _ (stood _ _ _ _ c.loop-at.invariant.1 c.pass-to.ensures c.if-at-to.false) c.loop-at.invariant.0

pub returns-in_err-k-clause-checked : goal.returns-in_err-k-clause-checked
returns-in_err-k-clause-checked c =
    let m = mapped_err c.fault_of.result c.map_err-in-loop-at-2.result _ c.map_err-in-loop-at-2.ensures.cases _ c.in_err-k.was in
    let q : c.in_err-k.field-0.0 ≡ record { fault = m.0; place = c.args.base + c.loop-at.at } = search (rules, m.1.1) in
    let r : c.from_residual-in_err-k.result ≡ Err c.in_err-k.field-0.0 = search rules in
    rw (r, q) (turn_refused _ _ _ _ (stood _ _ _ _ c.loop-at.invariant.1 c.pass-to.ensures c.if-at-to.false) c.command_at-in-loop-at.ensures (mapped_ok c.command_at-in-loop-at.result c.map_err-in-loop-at.result _ c.map_err-in-loop-at.ensures.cases _ c.in_ok-c.was) _ (sym (c.fault_of.ensures.fault _ _) ∙ ap told m.1.0))

pub returns-then-c-eq-KEY-clause-checked : goal.returns-then-c-eq-KEY-clause-checked
returns-then-c-eq-KEY-clause-checked c =
    let q : c.refusal.result ≡ record { fault = GivenBefore; place = c.args.base + c.loop-at.at } = search rules in
    rw q (
    key_refused _ _ _ _ (stood _ _ _ _ c.loop-at.invariant.1 c.pass-to.ensures c.if-at-to.false) c.command_at-in-loop-at.ensures (mapped_ok c.command_at-in-loop-at.result c.map_err-in-loop-at.result _ c.map_err-in-loop-at.ensures.cases _ c.in_ok-c.was) c.fault_of.ensures (mapped_ok c.fault_of.result c.map_err-in-loop-at-2.result _ c.map_err-in-loop-at-2.ensures.cases _ c.in_ok-k.was) c.if-c-eq-KEY.true
    (left_key _ _ _ _ _ _ c.pass-to.ensures c.if-at-to.false _ _ (sym (mapped_ok c.command_at-in-loop-at.result c.map_err-in-loop-at.result _ c.map_err-in-loop-at.ensures.cases _ c.in_ok-c.was) ∙ c.command_at-in-loop-at.ensures) c.if-c-eq-KEY.true))

pub push-requires : goal.push-requires
push-requires c = looked_slot _ _ _ _ (stood _ _ _ _ c.loop-at.invariant.1 c.pass-to.ensures c.if-at-to.false) c.command_at-in-loop-at.ensures (mapped_ok c.command_at-in-loop-at.result c.map_err-in-loop-at.result _ c.map_err-in-loop-at.ensures.cases _ c.in_ok-c.was) c.fault_of.ensures (mapped_ok c.fault_of.result c.map_err-in-loop-at-2.result _ c.map_err-in-loop-at-2.ensures.cases _ c.in_ok-k.was) c.if-c-eq-KEY.false

pub loop-at-smaller : goal.loop-at-smaller
loop-at-smaller c = looked_less _ _ _ _ (stood _ _ _ _ c.loop-at.invariant.1 c.pass-to.ensures c.if-at-to.false) c.command_at-in-loop-at.ensures (mapped_ok c.command_at-in-loop-at.result c.map_err-in-loop-at.result _ c.map_err-in-loop-at.ensures.cases _ c.in_ok-c.was) c.fault_of.ensures (mapped_ok c.fault_of.result c.map_err-in-loop-at-2.result _ c.map_err-in-loop-at-2.ensures.cases _ c.in_ok-k.was) c.if-c-eq-KEY.false

pub loop-at-preserved : goal.loop-at-preserved
loop-at-preserved c =
    let less = looked_less _ _ _ _ (stood _ _ _ _ c.loop-at.invariant.1 c.pass-to.ensures c.if-at-to.false) c.command_at-in-loop-at.ensures (mapped_ok c.command_at-in-loop-at.result c.map_err-in-loop-at.result _ c.map_err-in-loop-at.ensures.cases _ c.in_ok-c.was) c.fault_of.ensures (mapped_ok c.fault_of.result c.map_err-in-loop-at-2.result _ c.map_err-in-loop-at-2.ensures.cases _ c.in_ok-k.was) c.if-c-eq-KEY.false in (
      omega (arith, less),
      looked_on _ _ _ _ (stood _ _ _ _ c.loop-at.invariant.1 c.pass-to.ensures c.if-at-to.false) c.command_at-in-loop-at.ensures (mapped_ok c.command_at-in-loop-at.result c.map_err-in-loop-at.result _ c.map_err-in-loop-at.ensures.cases _ c.in_ok-c.was) c.fault_of.ensures (mapped_ok c.fault_of.result c.map_err-in-loop-at-2.result _ c.map_err-in-loop-at-2.ensures.cases _ c.in_ok-k.was) c.if-c-eq-KEY.false
          _ c.is_ended.ensures c.if-is_ended.false _ c.push.ensures.counts_after _ c.push.ensures.last_after,
    )
