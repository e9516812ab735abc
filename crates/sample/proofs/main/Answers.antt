use Rattle.std.proofs.Common.{◌≡◌, ℕ, length, replicate, sym, ◌∙◌}
use Rattle.std.proofs.lemmas.List.{length-replicate}
use Rattle.sample.proofs.main.Goals as goal

-- how many zeros an array is filled with
lasts : (n : ℕ) → n ≡ length (replicate {A = ℕ} n 0)
lasts n = sym (length-replicate {A = ℕ} n 0)

pub slice_bounds-load-end-2 : goal.slice_bounds-load-end-2
slice_bounds-load-end-2 c = lasts 524288

pub slice_bounds-upto-end : goal.slice_bounds-upto-end
slice_bounds-upto-end c = lasts 524288 ∙ sym c.load.auto.room

pub slice_bounds-replay-end : goal.slice_bounds-replay-end
slice_bounds-replay-end c = lasts 14

pub slice_bounds-replay-end-2 : goal.slice_bounds-replay-end-2
slice_bounds-replay-end-2 c = lasts 8192

pub slice_bounds-write_counts-end : goal.slice_bounds-write_counts-end
slice_bounds-write_counts-end c = lasts 14 ∙ sym c.replay-tally.auto.counts
