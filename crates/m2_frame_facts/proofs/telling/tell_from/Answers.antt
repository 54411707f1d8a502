use Rattle.std.proofs.Common.{refl, sym, ◌∙◌, subst, inl, inr}
use Rattle.m2_control.specs.declared.banner.BannerStep.TheVariants as step
use Rattle.m2_frame_facts.specs.Head.{Tells}
use Rattle.m2_frame_facts.proofs.Told.{tells_banner, tells_front, tells_plain}
use Rattle.m2_frame_facts.proofs.telling.tell_from.Goals as goal

pub returns-in-Err-clause-tells : goal.returns-in-Err-clause-tells
returns-in-Err-clause-tells g c =
    let src = g.S.Source.seen c.args.src.now in
    let before = g.O.Sink.seen c.args.out.now in
    let after = g.O.Sink.seen c.put_front.new.out in
    subst (λ e. Tells c.args.style e src before after) (sym c.at_once.ensures)
    (inr (tells_front c.args.style c.args.head.now c.in-Got.banner c.in-Got.used c.in-Err.end src before after c.in-Got.ensures.value c.requires.head.given c.in-Err.ensures.puts))

pub returns-in_default-clause-tells : goal.returns-in_default-clause-tells
returns-in_default-clause-tells g c =
    inl (tells_banner c.args.style c.args.head.now c.split_at.result.1.now c.in-Got.banner c.in-Got.used c.from-skipped.result c.list_behind-listing.result
    (g.S.Source.seen c.args.src.now) (g.S.Source.seen c.list_behind-listing.new.src) (g.O.Sink.seen c.args.out.now) (g.O.Sink.seen c.put_front.new.out) (g.O.Sink.seen c.list_behind-listing.new.out)
    c.in-Got.ensures.value c.from-skipped.ensures c.requires.head c.split_at.ensures.back c.list_behind-listing.ensures.grows c.in_default.ensures.puts c.list_behind-listing.ensures.lists)

pub returns-in-NotYet-clause-tells : goal.returns-in-NotYet-clause-tells
returns-in-NotYet-clause-tells g c =
    let old = g.S.Source.seen c.args.src.now in
    let new = g.S.Source.seen c.list_behind.new.src in
    let before = g.O.Sink.seen c.args.out.now in
    let after = g.O.Sink.seen c.list_behind.new.out in
    subst (λ e. Tells c.args.style e new before after) (sym c.at_once-in-NotYet.ensures)
    (inl (tells_plain c.args.style c.args.head.now step.NotYet c.list_behind.result old new before after (sym c.in-NotYet.is ∙ c.read_banner.ensures.value) refl refl
    c.requires.head c.list_behind.ensures.grows c.list_behind.ensures.lists))

pub returns-in-BadBanner-clause-tells : goal.returns-in-BadBanner-clause-tells
returns-in-BadBanner-clause-tells g c =
    let old = g.S.Source.seen c.args.src.now in
    let new = g.S.Source.seen c.list_behind-in-BadBanner.new.src in
    let before = g.O.Sink.seen c.args.out.now in
    let after = g.O.Sink.seen c.list_behind-in-BadBanner.new.out in
    subst (λ e. Tells c.args.style e new before after) (sym c.at_once-in-BadBanner.ensures)
    (inl (tells_plain c.args.style c.args.head.now step.BadBanner c.list_behind-in-BadBanner.result old new before after (sym c.in-BadBanner.is ∙ c.read_banner.ensures.value) refl refl
    c.requires.head c.list_behind-in-BadBanner.ensures.grows c.list_behind-in-BadBanner.ensures.lists))
