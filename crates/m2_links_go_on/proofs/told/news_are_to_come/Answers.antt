use Rattle.m2_links_go_on.proofs.ToCome.{news_to_come}
use Rattle.m2_links_go_on.proofs.told.news_are_to_come.Goals as goal

pub returns : goal.returns
returns c = news_to_come
