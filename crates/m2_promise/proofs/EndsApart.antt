-- At no node of a run that is kept two ends are of one socket.
use Rattle.std.proofs.Common.{List, [], ◌∷◌, ◌++◌, length, subst}
use Rattle.std.specs.List.{IsDistinct}
use Rattle.m2_dispatch.specs.Heard.{Heard, heard_by}
use Rattle.m2_dispatch.specs.declared.logged.Logged.{Logged}
use Rattle.m2_fabric.proofs.m2_lemmas.Lists.{all_so}
use Rattle.m2_fabric.specs.End.{SeenEnd}
use Rattle.m2_fabric.specs.Sockets.{same_socket}
use Rattle.m2_links_go_on.proofs.m2_growth.Owned.{own_all}
use Rattle.m2_links_go_on.specs.Center.{holding_of}
use Rattle.m2_links_go_on.specs.m2_growth.Holding.{AreOwn}
use Rattle.m2_links_go_on.proofs.OneGrows.{same_waiting}
use Rattle.m2_scenario.specs.declared.link.Link.{Link}
use Rattle.m2_scenario.specs.declared.node.Node.{Node}
use Rattle.m2_script.specs.Apart.{AllEndsApart, EndsAreApart, EndsStayApart}
use Rattle.m2_script.specs.Script.{Deed, RunNow, script_of}
use Rattle.m2_script.specs.m2_center.Reaching.{ends_in}
use Rattle.m2_script.specs.m2_cluster.Node.{NodeNow}
use Rattle.m2_script.specs.m2_record.RecordNow.{ids_of}
use Rattle.m2_promise.proofs.Doing.{all_own}
use Rattle.m2_promise.specs.Kept.{IsKept}
use Rattle.m2_promise.specs.StartLaws.{DeedsStayKept, FirstIsKept, FirstStaysApart}

node_apart : {D : Type 0} (n : NodeNow D) → AreOwn (holding_of n.center) → EndsAreApart n
node_apart n own =
    subst (λ (es : List SeenEnd). IsDistinct same_socket (ids_of (ends_in n.center ++ es))) (same_waiting n.center.port.waiting) (own_all (holding_of n.center) own)

kept_apart : {D : Type 0} (heard : D → List Heard) (nodes : List Node) (links : List Link) (s : RunNow D) → IsKept heard nodes links s → AllEndsApart s
kept_apart {D} heard nodes links s kept = all_so (λ (n : NodeNow D). AreOwn (holding_of n.center)) EndsAreApart node_apart s.cluster.nodes (all_own s kept.rest.running)

stays_apart : {D : Type 0} (E : Type 0) → DeedsStayKept D E → (heard : D → List Heard) (nodes : List Node) (links : List Link) (ds : List Deed) (s : RunNow D) → IsKept heard nodes links s →
    EndsStayApart E heard ds s
stays_apart E stays heard nodes links [] s kept = tt
stays_apart E stays heard nodes links (d ∷ ds) s kept =
    λ behind h. let there = stays heard nodes links d s behind h kept in (kept_apart heard nodes links behind there, stays_apart E stays heard nodes links ds behind there)

pub first_stays : (E : Type 0) → FirstIsKept → DeedsStayKept (List Logged) E → FirstStaysApart E
first_stays E begins stays nodes links lines s sound first =
    stays_apart E stays heard_by nodes links (script_of links (length nodes) lines) s (begins nodes links lines s sound first)
