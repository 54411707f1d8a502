-- A post or a dial of the plan is no step of the link.
--
-- Post, Dial: no step.
use Rattle.std.proofs.Common.{Some, None}
use Rattle.m2_journal.specs.Plan.{to_post, to_dial, to_go_down}
use Rattle.m2_never_reset.specs.LinkOf.{role_of, link_of}
use Rattle.m2_never_reset.specs.PairLaws.{PostsAreNoSteps, DialsAreNoSteps}
use Rattle.m2_never_reset.proofs.Links.{stays}

pub posts_are : PostsAreNoSteps
posts_are f g place (Some (to_post m)) n a b may = stays (role_of f) (role_of g) n (λ k. link_of k a b)
posts_are f g place (Some to_dial) n a b may = stays (role_of f) (role_of g) n (λ k. link_of k a b)
posts_are f g place (Some to_go_down) n a b may = stays (role_of f) (role_of g) n (λ k. link_of k a b)
posts_are f g place None n a b may = stays (role_of f) (role_of g) n (λ k. link_of k a b)

pub dials_are : DialsAreNoSteps
dials_are f g planned n a b may = stays (role_of f) (role_of g) n (λ k. link_of k a b)
