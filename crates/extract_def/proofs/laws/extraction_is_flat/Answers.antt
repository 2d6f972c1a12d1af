use Rattle.extract_def.proofs.Flatness.{extraction_is_flat}
use Rattle.extract_def.proofs.laws.extraction_is_flat.Goals as goal

pub returns : goal.returns
returns c = extraction_is_flat
