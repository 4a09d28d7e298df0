use Rattle.known_objects.proofs.Changes.{news_name}
use Rattle.known_objects.proofs.laws.new_objects_name_no_more_keys.Goals as goal

pub returns : goal.returns
returns c = news_name
