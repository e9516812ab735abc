use Rattle.book.specs.Command.{width_of}
use Rattle.book.proofs.Widths.{span_keys, span_low, span_in, span_out, span_high}
use native.Mathlib.Omega.{arith}
use Rattle.book.proofs.is_spanned.Goals as goal

pub returns-in_default : goal.returns-in_default
returns-in_default c = span_low _ c.in_default.in_default-own.rest.1 c.in_default.if-matches-own.true

pub returns-in_default-2 : goal.returns-in_default-2
unfolding width_of
returns-in_default-2 c = span_out _ 10 11 c.in_default.if-matches-2-own.false c.in_default.if-matches-3-own.true (omega arith) tt

pub returns-in_default-3 : goal.returns-in_default-3
unfolding width_of
returns-in_default-3 c = span_out _ 14 15 c.in_default.if-matches-4-own.false c.in_default.if-matches-5-own.true (omega arith) tt

pub returns-in_default-4 : goal.returns-in_default-4
returns-in_default-4 c = span_high _ c.in_default.if-matches-6-own.false

pub returns-in-1 : goal.returns-in-1
returns-in-1 c = span_keys _ c.in-1.is

pub returns-in-1-2 : goal.returns-in-1-2
unfolding width_of
returns-in-1-2 c = span_in _ 7 10 c.in-1.if-matches-own.false c.in-1.if-matches-2-own.true (omega arith) tt

pub returns-in-1-3 : goal.returns-in-1-3
unfolding width_of
returns-in-1-3 c = span_in _ 11 14 c.in-1.if-matches-3-own.false c.in-1.if-matches-4-own.true (omega arith) tt

pub returns-in-1-4 : goal.returns-in-1-4
unfolding width_of
returns-in-1-4 c = span_in _ 15 18 c.in-1.if-matches-5-own.false c.in-1.if-matches-6-own.true (omega arith) tt
