use Rattle.tree_words.proofs.Tracks.{tracks_are_views}
use Rattle.tree_words.proofs.laws.tracks_are_views.Goals as goal

pub returns : goal.returns
returns c = tracks_are_views
