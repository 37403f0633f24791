mod Behind
mod SizesFit
