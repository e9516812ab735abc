use Rattle.std.proofs.Common.{◌≡◌, ap, ◌∙◌, not, ◌&&◌}
use Rattle.tsconfig.specs.Config.{include, exclude}
use Rattle.tsconfig.specs.Claims.{included, excluded, claims}
use Rattle.sites.specs.Sites.{site_in}
use Rattle.claims.proofs.Sites.{kept, not_kept}
use Rattle.claims.proofs.is_claimed.Goals.{then-not-is_outside, else-not-is_outside}
use Rattle.claims.proofs.is_claimed.Goals as goal

pub returns-then-is_in_files : goal.returns-then-is_in_files
unfolding claims
returns-then-is_in_files c = rw (← c.is_in_files.ensures, c.if-is_in_files.true)

pub returns-then-is_included : goal.returns-then-is_included
unfolding claims
returns-then-is_included c =
    let site = site_in c.args.config.now in
    let taken = included site c.args.path.now (site.config.named include) in
    let e : c.if-not-is_outside.value ≡ (not c.is_outside.result && taken) =
    elim c.if-not-is_outside.branch [
      | then-not-is_outside w ↦ rw w.if-not-is_outside.true (w.value-is ∙ w.is_included.ensures)
      | else-not-is_outside w ↦ rw w.if-not-is_outside.false (w.value-is ∙ ap not w.if-not-is_outside.false)
    ] in
    rw (← c.is_in_files.ensures, c.if-is_in_files.false, ← c.allow_js.ensures, ← c.is_outside.ensures, ← c.is_excluded.ensures)
    (kept c.is_outside.result taken c.is_excluded.result _ e c.if-is_included.true)

pub returns-else-is_included : goal.returns-else-is_included
unfolding claims
returns-else-is_included c =
    let site = site_in c.args.config.now in
    let taken = included site c.args.path.now (site.config.named include) in
    let e : c.if-not-is_outside.value ≡ (not c.is_outside.result && taken) =
    elim c.if-not-is_outside.branch [
      | then-not-is_outside w ↦ rw w.if-not-is_outside.true (w.value-is ∙ w.is_included.ensures)
      | else-not-is_outside w ↦ rw w.if-not-is_outside.false (w.value-is ∙ ap not w.if-not-is_outside.false)
    ] in
    rw (← c.is_in_files.ensures, c.if-is_in_files.false, ← c.allow_js.ensures, ← c.is_outside.ensures)
    (not_kept c.is_outside.result taken (excluded site c.args.path.now (site.config.named exclude)) _ e c.if-is_included.false)
