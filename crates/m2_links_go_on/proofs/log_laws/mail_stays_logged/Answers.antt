use Rattle.m2_links_go_on.proofs.Mailed.{mail_stays_logged}
use Rattle.m2_links_go_on.proofs.log_laws.mail_stays_logged.Goals as goal

pub returns : goal.returns
returns g c = mail_stays_logged
