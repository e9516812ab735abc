use Rattle.std.proofs.Common.{◌≡◌, ℕ, length, replicate, sym}
use Rattle.std.proofs.lemmas.List.{length-replicate}
use Rattle.edges.proofs.main.Goals as goal

-- how many zeros an array is filled with
lasts : (n : ℕ) → n ≡ length (replicate {A = ℕ} n 0)
lasts n = sym (length-replicate {A = ℕ} n 0)

pub slice_bounds-read_file-end-2 : goal.slice_bounds-read_file-end-2
slice_bounds-read_file-end-2 c = lasts 524288

pub slice_bounds-list-end : goal.slice_bounds-list-end
slice_bounds-list-end c = c.in-Ok.ensures.0

pub slice_bounds-replay-end : goal.slice_bounds-replay-end
slice_bounds-replay-end c = c.in-Ok.ensures.1

pub slice_bounds-replay-end-2 : goal.slice_bounds-replay-end-2
slice_bounds-replay-end-2 c = lasts 33000

pub slice_bounds-replay-end-3 : goal.slice_bounds-replay-end-3
slice_bounds-replay-end-3 c = lasts 66000
