use Rattle.std.proofs.Common.{◌≡◌, ℕ, length, replicate, sym}
use Rattle.std.proofs.lemmas.List.{length-replicate}
use Rattle.asking.proofs.answer_stdin.Goals as goal

-- how many zeros an array is filled with
lasts : (n : ℕ) → n ≡ length (replicate {A = ℕ} n 0)
lasts n = sym (length-replicate {A = ℕ} n 0)

pub slice_bounds-answer_all-end : goal.slice_bounds-answer_all-end
slice_bounds-answer_all-end g c = lasts 4096

pub slice_bounds-answer_all-end-2 : goal.slice_bounds-answer_all-end-2
slice_bounds-answer_all-end-2 g c = lasts 1048576
