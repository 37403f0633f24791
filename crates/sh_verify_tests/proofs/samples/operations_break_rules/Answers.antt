use Rattle.sh_verify_tests.proofs.OfOperations.{all_right}
use Rattle.sh_verify_tests.proofs.samples.operations_break_rules.Goals as goal

pub returns-clause-elements : goal.returns-clause-elements
returns-clause-elements c = all_right.elements

pub returns-clause-layouts : goal.returns-clause-layouts
returns-clause-layouts c = all_right.layouts

pub returns-clause-structured : goal.returns-clause-structured
returns-clause-structured c = all_right.structured

pub returns-clause-regions : goal.returns-clause-regions
returns-clause-regions c = all_right.regions

pub returns-clause-sources : goal.returns-clause-sources
returns-clause-sources c = all_right.sources

pub returns-clause-devices : goal.returns-clause-devices
returns-clause-devices c = all_right.devices

pub returns-clause-source_counts : goal.returns-clause-source_counts
returns-clause-source_counts c = all_right.source_counts

pub returns-clause-device_counts : goal.returns-clause-device_counts
returns-clause-device_counts c = all_right.device_counts

pub returns-clause-returns : goal.returns-clause-returns
returns-clause-returns c = all_right.returns
