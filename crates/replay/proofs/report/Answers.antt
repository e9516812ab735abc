use Rattle.std.proofs.Common.{◌≡◌, ℕ, length, replicate, sym}
use Rattle.std.proofs.lemmas.List.{length-replicate}
use Rattle.replay.proofs.report.Goals as goal

-- how many zeros an array is filled with
lasts : (n : ℕ) → n ≡ length (replicate {A = ℕ} n 0)
lasts n = sym (length-replicate {A = ℕ} n 0)

pub slice_bounds-read_file-end : goal.slice_bounds-read_file-end
slice_bounds-read_file-end g c = lasts 524288

pub slice_bounds-buffer-end : goal.slice_bounds-buffer-end
slice_bounds-buffer-end g c = c.in-Ok.ensures.0

pub slice_bounds-replay-end : goal.slice_bounds-replay-end
slice_bounds-replay-end g c = c.in-Ok.ensures.1
