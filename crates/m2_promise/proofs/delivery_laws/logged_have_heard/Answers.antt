-- What is promised of logged dispatchers.
use Rattle.m2_promise.proofs.delivery_laws.logged_have_heard.Goals as goal

pub returns : goal.returns
returns g c = c.logged_are_heard.ensures
